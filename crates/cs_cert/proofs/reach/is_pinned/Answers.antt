use Rattle.std.proofs.Common.{rules}
use Rattle.cs_cert.proofs.StepLemmas.{not_pinned_past, pinned_by}
use Rattle.cs_cert.proofs.reach.is_pinned.Goals as goal

pub returns-then-is_below : goal.returns-then-is_below
returns-then-is_below c = pinned_by c.args.machine.now c.args.v c.is_pinned.result (search rules) c.is_pinned.ensures

pub returns-else-is_below : goal.returns-else-is_below
returns-else-is_below c = (
  λ is. absurd (search rules),
  λ p. absurd (not_pinned_past c.args.machine.now c.args.v (search rules) p),
)
