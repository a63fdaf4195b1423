-- The way up so far, one parent more, and its ends.
use Rattle.std.proofs.Common.{◌≡◌, ◌+◌, Some, sym, ◌∙◌, arith}
use Rattle.std.proofs.lemmas.List.{length_push}
use Rattle.cs_diff.specs.Labels.{ancestor}
use Rattle.cs_diff.proofs.ClimbLemmas.{ancestor_more, climbs_more, up_none, back_more, back_ends}
use Rattle.cs_diff.proofs.climb.loop_through.Goals as goal

pub returns-in_default-clause-none : goal.returns-in_default-clause-none
returns-in_default-clause-none c =
    let d = c.args.reading in
    let cs = c.args.sys.now.constraints in
    let parents = c.args.parents.now in
    let k = c.loop-step._step in
    back_ends d cs parents c.args.start k c.args.sys.now.vertices c.loop-step.invariant.back
    (ancestor_more d cs parents k c.args.start c.loop-step.at c.loop-step.invariant.reached ∙
    up_none d cs parents c.loop-step.at (sym c.in_default.ensures))

pub returns-in_default-next-clause-none : goal.returns-in_default-next-clause-none
returns-in_default-next-clause-none c =
    let d = c.args.reading in
    let cs = c.args.sys.now.constraints in
    let parents = c.args.parents.now in
    let k = c.loop-step._step in
    back_ends d cs parents c.args.start k c.args.sys.now.vertices c.loop-step.invariant.back
    (ancestor_more d cs parents k c.args.start c.loop-step.at c.loop-step.invariant.reached ∙ sym
    c.in_default-next.ensures.up)

pub returns-then-at-start-clause-found : goal.returns-then-at-start-clause-found
returns-then-at-start-clause-found c =
    let d = c.args.reading in
    let cs = c.args.sys.now.constraints in
    let parents = c.args.parents.now in
    let pushed = c.in_ok-push.ensures.ok in
    let climbs = climbs_more d cs parents c.loop-step.places c.args.start c.loop-step.at
    c.in-Some.place c.in-Some-next.above c.loop-step.invariant.climbs (sym c.in-Some.ensures)
    (sym c.in-Some-next.ensures.up) in
    rw pushed
    (record {
      vertex = c.args.start;
      some = omega (arith, length_push c.loop-step.places c.in-Some.place);
      climbs = rw c.if-at-start.true at climbs;
    })

pub loop-step-preserved : goal.loop-step-preserved
loop-step-preserved c =
    let d = c.args.reading in
    let cs = c.args.sys.now.constraints in
    let parents = c.args.parents.now in
    let k = c.loop-step._step in
    let climbs = climbs_more d cs parents c.loop-step.places c.args.start c.loop-step.at
    c.in-Some.place c.in-Some-next.above c.loop-step.invariant.climbs (sym c.in-Some.ensures)
    (sym c.in-Some-next.ensures.up) in
    let reached : ancestor d cs parents (k + 1) c.args.start ≡ Some c.in-Some-next.above =
    ancestor_more d cs parents k c.args.start c.loop-step.at c.loop-step.invariant.reached ∙ sym
    c.in-Some-next.ensures.up in
    record {
      climbs = rw c.in_ok-push.ensures.ok climbs;
      reached = reached;
      back = back_more d cs parents c.args.start k c.loop-step.invariant.back
          (λ back. c.if-at-start.false (cc (reached, back)));
    }
