use Rattle.std.proofs.Common.{◌≡◌, ◌++◌, drop}
use Rattle.cs_lower.proofs.StartLemmas.{bits_from}
use Rattle.cs_lower.proofs.starts.push_bits.Given as goal

-- the starts of the bits that are left come after those that are pushed
abbrev pub invariant-loop-place : goal.invariant-loop-place
invariant-loop-place l =
    l.values.items ++ bits_from l.starts l.place (drop l.place l.bits)
    ≡ l.fn.values.items ++ bits_from l.starts 0 l.bits
