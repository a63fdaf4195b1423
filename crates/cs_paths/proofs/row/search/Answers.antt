-- Round by round.
use Rattle.std.proofs.Common.{Bool, List, refl, sym, subst, ◌∙◌}
use Rattle.std.proofs.lemmas.List.{length-set}
use Rattle.cs_paths.proofs.RoundLemmas.{Searches, round_begins, taken_low, row_low, flag_low, fresh_few, round_passes, round_settles, round_works, round_ends}
use Rattle.cs_paths.proofs.row.search.Goals as goal

pub loop-weight-init : goal.loop-weight-init
loop-weight-init c = record {
  rows = length-set c.args.row.now c.get.result c.some.result ∙ c.requires.count;
  flags = refl;
  search = round_begins c.args.machine.now c.args.delays.now c.args.guide.now c.requires.guide c.args.u c.some.result
      c.args.row.now c.args.settled.now c.get.result c.of_vertex.result c.place.result c.restart.new.self
      c.push.new.self c.requires.vertex c.requires.count c.requires.blank c.requires.flags c.get.ensures
      c.some.ensures c.of_vertex.ensures c.place.ensures c.restart.ensures.idle c.in_ok-push.ensures;
}

pub vertex-v-requires : goal.vertex-v-requires
vertex-v-requires c =
    taken_low c.args.machine.now c.args.delays.now c.args.guide.now c.requires.guide c.args.u c.loop-weight.row
    c.loop-weight.settled c.loop-weight.waiting c.pop.new.self (c.in-Some.weight, c.in-Some.place)
    c.loop-weight.invariant.search c.in-Some.ensures.some

pub settle-requires-clause-row : goal.settle-requires-clause-row
settle-requires-clause-row c =
    row_low c.args.machine.now c.args.delays.now c.args.guide.now c.requires.guide c.args.u c.loop-weight.row
    c.loop-weight.settled c.loop-weight.waiting c.pop.new.self (c.in-Some.weight, c.in-Some.place)
    c.loop-weight.invariant.search c.in-Some.ensures.some c.vertex-v.result c.vertex-v.ensures

pub settle-requires-clause-flags : goal.settle-requires-clause-flags
settle-requires-clause-flags c =
    flag_low c.args.machine.now c.args.delays.now c.args.guide.now c.requires.guide c.args.u c.loop-weight.row
    c.loop-weight.settled c.loop-weight.waiting c.pop.new.self (c.in-Some.weight, c.in-Some.place)
    c.loop-weight.invariant.search c.in-Some.ensures.some c.vertex-v.result c.vertex-v.ensures

pub relax_from-requires-clause-weight : goal.relax_from-requires-clause-weight
relax_from-requires-clause-weight c =
    (fresh_few c.args.machine.now c.args.delays.now c.args.guide.now c.requires.guide c.args.u c.loop-weight.row
    c.loop-weight.settled c.loop-weight.waiting c.pop.new.self (c.in-Some.weight, c.in-Some.place)
    c.loop-weight.invariant.search c.in-Some.ensures.some c.vertex-v.result c.vertex-v.ensures
    c.in-Some-settle.delay c.keeps.ensures.limits.vertices
    c.in-Some-settle.ensures.settles.1).0

pub relax_from-requires-clause-delay : goal.relax_from-requires-clause-delay
relax_from-requires-clause-delay c =
    (fresh_few c.args.machine.now c.args.delays.now c.args.guide.now c.requires.guide c.args.u c.loop-weight.row
    c.loop-weight.settled c.loop-weight.waiting c.pop.new.self (c.in-Some.weight, c.in-Some.place)
    c.loop-weight.invariant.search c.in-Some.ensures.some c.vertex-v.result c.vertex-v.ensures
    c.in-Some-settle.delay c.keeps.ensures.limits.vertices
    c.in-Some-settle.ensures.settles.1).1

pub loop-weight-smaller-in-Continue-branch-2 : goal.loop-weight-smaller-in-Continue-branch-2
loop-weight-smaller-in-Continue-branch-2 c =
    round_works c.args.machine.now c.args.delays.now c.args.guide.now c.requires.guide c.args.u c.loop-weight.row
    c.loop-weight.settled c.loop-weight.waiting c.pop.new.self (c.in-Some.weight, c.in-Some.place)
    c.loop-weight.invariant.search c.in-Some.ensures.some c.keeps.ensures.limits.vertices
    c.relax_from.new.waiting c.in_ok-relax_from.ensures.position

pub loop-weight-preserved-in-Continue-branch-2 : goal.loop-weight-preserved-in-Continue-branch-2
loop-weight-preserved-in-Continue-branch-2 c = record {
  rows = c.in_ok-relax_from.ensures.count ∙ c.loop-weight.invariant.rows;
  flags = c.in-Some-settle.ensures.count ∙ c.loop-weight.invariant.flags;
  search = subst (λ (bs : List Bool). Searches c.args.machine.now c.args.delays.now c.args.guide.now c.args.u
      c.relax_from.new.row bs c.relax_from.new.waiting) (sym c.in-Some-settle.ensures.settles.0)
      (round_settles c.args.machine.now c.args.delays.now c.args.guide.now c.requires.guide c.args.u c.loop-weight.row
      c.loop-weight.settled c.loop-weight.waiting c.pop.new.self (c.in-Some.weight, c.in-Some.place)
      c.loop-weight.invariant.search c.in-Some.ensures.some c.vertex-v.result c.vertex-v.ensures
      c.in-Some-settle.delay c.relax_from.new.row c.relax_from.new.waiting
      c.in-Some-settle.ensures.settles.1 c.in_ok-relax_from.ensures.settles);
}

pub loop-weight-smaller : goal.loop-weight-smaller
loop-weight-smaller c =
    round_works c.args.machine.now c.args.delays.now c.args.guide.now c.requires.guide c.args.u c.loop-weight.row
    c.loop-weight.settled c.loop-weight.waiting c.pop.new.self (c.in-Some.weight, c.in-Some.place)
    c.loop-weight.invariant.search c.in-Some.ensures.some c.keeps.ensures.limits.vertices c.pop.new.self refl

pub loop-weight-preserved : goal.loop-weight-preserved
loop-weight-preserved c = record {
  rows = c.loop-weight.invariant.rows;
  flags = c.in_default-settle.ensures.count ∙ c.loop-weight.invariant.flags;
  search = subst (λ (bs : List Bool). Searches c.args.machine.now c.args.delays.now c.args.guide.now c.args.u
      c.loop-weight.row bs c.pop.new.self) (sym c.in_default-settle.ensures.settles.0)
      (round_passes c.args.machine.now c.args.delays.now c.args.guide.now c.requires.guide c.args.u c.loop-weight.row
      c.loop-weight.settled c.loop-weight.waiting c.pop.new.self (c.in-Some.weight, c.in-Some.place)
      c.loop-weight.invariant.search c.in-Some.ensures.some c.vertex-v.result c.vertex-v.ensures
      c.in_default-settle.ensures.settles.1);
}

pub returns-clause-row : goal.returns-clause-row
returns-clause-row c =
    round_ends c.args.machine.now c.args.delays.now c.args.guide.now c.requires.guide c.args.u c.loop-weight.row
    c.loop-weight.settled c.loop-weight.waiting c.loop-weight.invariant.search c.in_default.ensures.none
