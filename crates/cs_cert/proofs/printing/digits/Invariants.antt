-- The digits of some bits.
use Rattle.std.proofs.Common.{◌≡◌, map, string_bytes, take}
use Rattle.std.specs.Prelude.{if◌then◌else◌}
use Rattle.cs_cert.proofs.printing.digits.Given as goal

-- the digits of the bits so far
abbrev pub invariant-loop-bit : goal.invariant-loop-bit
invariant-loop-bit l = string_bytes l.text ≡ map (λ bit. if bit then 49 else 48) (take l.bit-index l.bits)
