use Rattle.std.proofs.Common.{Some, None, Bool, ap, ◌∙◌, if◌then◌else◌}
use Rattle.std.specs.Prelude.{pos}
use Rattle.cs_cert.proofs.BoundLemmas.{bound_of_vertex}
use Rattle.cs_cert.proofs.floors.pinned_bound.Goals as goal

pub returns-then-is_pinned : goal.returns-then-is_pinned
returns-then-is_pinned c =
    bound_of_vertex c.args.machine.now c.args.v c.is_pinned.result c.requires c.is_pinned.ensures
    ∙ ap (λ (b : Bool). Some (if b then Some (pos 0) else None)) c.if-is_pinned.true

pub returns-else-is_pinned : goal.returns-else-is_pinned
returns-else-is_pinned c =
    bound_of_vertex c.args.machine.now c.args.v c.is_pinned.result c.requires c.is_pinned.ensures
    ∙ ap (λ (b : Bool). Some (if b then Some (pos 0) else None)) c.if-is_pinned.false
