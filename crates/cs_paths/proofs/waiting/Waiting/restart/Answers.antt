-- Nothing waits.
use Rattle.std.proofs.Common.{subst, sym}
use Rattle.cs_paths.specs.Waitings.{queue}
use Rattle.cs_paths.proofs.WaitingLemmas.{IsIdle, idle_queue, idle_stays}
use Rattle.cs_paths.proofs.waiting.Waiting.restart.Goals as goal

pub invariant_of-self : goal.invariant_of-self
invariant_of-self c =
    idle_queue (queue c.self.inside.level c.self.inside.next c.self.inside.marks c.self.inside.later.items)
    (subst IsIdle (sym c.self.view_is) c.requires) c.self.invariant

pub returns-clause-idle : goal.returns-clause-idle
returns-clause-idle c =
    idle_stays (queue c.self.inside.level c.self.inside.next c.self.inside.marks c.self.inside.later.items)
    (subst IsIdle (sym c.self.view_is) c.requires)
