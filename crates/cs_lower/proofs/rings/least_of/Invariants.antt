use Rattle.std.proofs.Common.{take}
use Rattle.cs_lower.proofs.LeastLemmas.{IsLeastSoFar}
use Rattle.cs_lower.proofs.rings.least_of.Given as goal

-- the least so far
abbrev pub invariant-loop-bit : goal.invariant-loop-bit
invariant-loop-bit l = IsLeastSoFar l.least l.bits (take l.bit-index l.bits)
