use Rattle.std.proofs.Common.{◌≡◌, drop}
use Rattle.std.specs.Ordering.{nat_cmp}
use Rattle.std.specs.FinMap.{get, find}
use Rattle.cs_io.specs.Memory.{plan_of}
use Rattle.cs_io.proofs.memory.plan_at.Given as goal

abbrev pub invariant-loop-number : goal.invariant-loop-number
invariant-loop-number l = get (plan_of l.plan) l.call ≡ find nat_cmp l.call (drop l.number-index l.plan)
