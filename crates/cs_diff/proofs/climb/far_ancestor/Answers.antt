-- Where the parents end, they lead no further.
use Rattle.std.proofs.Common.{◌≡◌, ◌+◌, None, sym, ◌∙◌, arith}
use Rattle.cs_diff.specs.Labels.{ancestor}
use Rattle.cs_diff.proofs.ClimbLemmas.{ancestor_more, ancestor_ends}
use Rattle.cs_diff.proofs.climb.far_ancestor.Goals as goal

pub returns-in_err-at : goal.returns-in_err-at
returns-in_err-at c =
    let d = c.args.reading in
    let cs = c.args.sys.now.constraints in
    let parents = c.args.parents.now in
    let k = c.loop-step._step in
    let ended : ancestor d cs parents (k + 1) c.args.vertex ≡ None = ancestor_more d cs parents k
    c.args.vertex c.loop-step.at c.loop-step.invariant ∙ sym c.in_err-at.ensures.up in
    c.from_residual.ensures ∙ sym (ancestor_ends d cs parents (k + 1) c.args.sys.now.vertices
    c.args.vertex ended (omega arith))
