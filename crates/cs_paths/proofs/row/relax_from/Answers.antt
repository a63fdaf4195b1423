-- One edge that leaves the vertex more.
use Rattle.std.proofs.Common.{◌≡◌, ℕ, List, length, refl, sym, ap, subst, ◌∙◌, arith}
use Rattle.std.specs.Prelude.{Some, slice_get}
use Rattle.std.proofs.lemmas.Option.{slice_get_read, slice_get_within, same_Some}
use Rattle.cs_graph.specs.declared.edge.Edge.{Edge}
use Rattle.cs_paths.specs.Guides.{leaving_of, place_of}
use Rattle.cs_paths.specs.Searches.{along, Improves}
use Rattle.cs_paths.proofs.SearchLemmas.{edge_waits, improves_position, relaxed_goes_on}
use Rattle.cs_paths.proofs.SettleLemmas.{all_done}
use Rattle.cs_paths.proofs.StepLemmas.{edge_light, edge_to, edge_pin, edge_quick, edge_leaves}
use Rattle.cs_paths.proofs.row.relax_from.Goals as goal

pub edge-edge-requires : goal.edge-edge-requires
edge-edge-requires c =
    let edges = c.leaving-edges.result.now in
    let e = c.index-edges-turn.result in
    let at = slice_get_read edges (length edges) c.loop-turn.turn e refl c.loop-turn-test.true
    c.index-edges-turn.is in
    let leaves = edge_leaves c.args.machine.now c.args.guide.now c.args.v c.loop-turn.turn e c.requires.guide
    (ap (λ es. slice_get es c.loop-turn.turn) (sym c.leaving-edges.ensures) ∙ at) in
    slice_get_within c.args.machine.now.edges e leaves.0 leaves.1

pub along-new-requires-clause-pin : goal.along-new-requires-clause-pin
along-new-requires-clause-pin c =
    edge_pin c.args.machine.now c.args.delays.now c.keeps.ensures c.requires.delays c.index-edges-turn.result
    c.edge-edge.result.now c.edge-edge.ensures

pub along-new-requires-clause-weight : goal.along-new-requires-clause-weight
along-new-requires-clause-weight c =
    let light = edge_light c.args.machine.now c.args.delays.now c.keeps.ensures c.requires.delays
    c.index-edges-turn.result c.edge-edge.result.now c.edge-edge.ensures in
    let few = c.requires.weight in
    omega (arith, light, few)

pub improve-requires-clause-waits : goal.improve-requires-clause-waits
improve-requires-clause-waits c =
    let g = c.args.machine.now in
    let delays = c.args.delays.now in
    let guide = c.args.guide.now in
    let v = c.args.v in
    let turn = c.loop-turn.turn in
    let e = c.index-edges-turn.result in
    let d = c.edge-edge.result.now in
    let found = c.edge-edge.ensures in
    let read = slice_get_read c.leaving-edges.result.now (length c.leaving-edges.result.now) turn e refl
    c.loop-turn-test.true c.index-edges-turn.is in
    let leaves = edge_leaves g guide v turn e c.requires.guide
    (ap (λ es. slice_get es turn) (sym c.leaving-edges.ensures) ∙ read) in
    let begins : d.from ≡ v = ap (λ (x : Edge). x.from) (same_Some d leaves.0 (sym found ∙ leaves.1)) ∙ leaves.2 in
    edge_waits g delays guide c.requires.guide c.loop-turn.waiting v e d c.args.from _ _ found begins
    (c.loop-turn.invariant.level ∙ c.requires.level) (c.loop-turn.invariant.next ∙ c.requires.next)
    (ap (λ (a : ℕ × ℕ). a.0) c.along-new.ensures) c.place.ensures
    (edge_to g delays c.keeps.ensures c.requires.delays e d found) c.keeps.ensures.limits.vertices
    (edge_light g delays c.keeps.ensures c.requires.delays e d found) c.requires.weight

pub loop-turn-preserved : goal.loop-turn-preserved
loop-turn-preserved c =
    let g = c.args.machine.now in
    let delays = c.args.delays.now in
    let guide = c.args.guide.now in
    let v = c.args.v in
    let from = c.args.from in
    let turn = c.loop-turn.turn in
    let e = c.index-edges-turn.result in
    let d = c.edge-edge.result.now in
    let found = c.edge-edge.ensures in
    let edges = leaving_of guide.leaving v in
    let read = slice_get_read c.leaving-edges.result.now (length c.leaving-edges.result.now) turn e refl
    c.loop-turn-test.true c.index-edges-turn.is in
    let at : slice_get edges turn ≡ Some e = ap (λ es. slice_get es turn) (sym c.leaving-edges.ensures) ∙ read in
    let leaves = edge_leaves g guide v turn e c.requires.guide at in
    let begins : d.from ≡ v = ap (λ (x : Edge). x.from) (same_Some d leaves.0 (sym found ∙ leaves.1)) ∙ leaves.2 in
    let light = edge_light g delays c.keeps.ensures c.requires.delays e d found in
    let quick = edge_quick g delays c.keeps.ensures c.requires.delays e d found in
    let among = edge_to g delays c.keeps.ensures c.requires.delays e d found in
    let improves : Improves d.to (place_of guide d.to) (along delays d from) c.loop-turn.row c.loop-turn.waiting
    c.improve.new.row c.improve.new.waiting =
    subst (λ p. Improves d.to p (along delays d from) c.loop-turn.row c.loop-turn.waiting c.improve.new.row
    c.improve.new.waiting) c.place.ensures
    (subst (λ new. Improves d.to c.place.result new c.loop-turn.row c.loop-turn.waiting c.improve.new.row
    c.improve.new.waiting) c.along-new.ensures c.in_ok-improve.ensures.improves) in
    let stays = improves_position d.to (place_of guide d.to) (along delays d from) c.loop-turn.row
    c.loop-turn.waiting c.improve.new.row c.improve.new.waiting improves in
    record {
      count = c.in_ok-improve.ensures.count ∙ c.loop-turn.invariant.count;
      goes = λ u settled has is.
          let so_far = c.loop-turn.invariant.goes u settled has is in
          relaxed_goes_on g delays guide c.requires.guide u v from edges turn e d c.loop-turn.row settled
          c.loop-turn.waiting so_far.0 so_far.1 at found begins c.improve.new.row c.improve.new.waiting among light
          quick improves;
      level = stays.0 ∙ c.loop-turn.invariant.level;
      next = stays.1 ∙ c.loop-turn.invariant.next;
    }

pub returns-clause-settles : goal.returns-clause-settles
returns-clause-settles c u settled has is =
    let over = c.loop-turn-test.false in
    let count = ap (λ (es : List ℕ). length es) c.leaving-edges.ensures in
    all_done c.args.machine.now c.args.delays.now c.args.guide.now u (c.args.from.0, place_of c.args.guide.now c.args.v)
    (leaving_of c.args.guide.now.leaving c.args.v) c.loop-turn.turn c.loop-turn.row settled c.loop-turn.waiting
    (omega (arith, over, count)) (c.loop-turn.invariant.goes u settled has is).0

pub returns-clause-position : goal.returns-clause-position
returns-clause-position c =
    let level = c.loop-turn.invariant.level in let next = c.loop-turn.invariant.next in omega (arith, level, next)
