use Rattle.std.proofs.Common.{◌≡◌, ◌++◌, ◌-◌}
use Rattle.cs_circuit.specs.MemoryCells.{bits_of_number}
use Rattle.cs_circuit.proofs.digits.bits_of_number.Given as goal

abbrev pub invariant-loop-place : goal.invariant-loop-place
invariant-loop-place l = l.bits.items ++ bits_of_number (32 - l._place) l.rest ≡ bits_of_number 32 l.number
