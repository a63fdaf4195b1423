use Rattle.std.proofs.Common.{◌-◌, length}
use Rattle.cs_lower.proofs.SearchLemmas.{IsWalking}
use Rattle.cs_lower.proofs.rings.walk.Given as goal

-- so far it is a walk
abbrev pub invariant-loop-next : goal.invariant-loop-next
invariant-loop-next l = IsWalking l.wires l.initial.passed l.from l.passed l.bit

-- each wire's bit is put down once at most
abbrev pub decreases-loop-next : goal.decreases-loop-next
decreases-loop-next l = length l.wires - length l.passed
