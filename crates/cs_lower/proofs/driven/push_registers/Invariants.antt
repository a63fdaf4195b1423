-- The bits of the starts that are left come behind those so far.
use Rattle.std.proofs.Common.{◌≡◌, ◌++◌, drop, map}
use Rattle.cs_lower.proofs.driven.push_registers.Given as goal

abbrev pub invariant-loop-start : goal.invariant-loop-start
invariant-loop-start l =
    l.numbers.items ++ map (λ s. s.bit) (drop l.start-index l.starts) ≡ l.fn.numbers.items ++ map (λ s. s.bit) l.starts
