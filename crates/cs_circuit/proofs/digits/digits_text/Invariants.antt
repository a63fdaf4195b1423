use Rattle.std.proofs.Common.{◌≡◌, map, reverse, take}
use Rattle.std.specs.Prelude.{string_bytes}
use Rattle.cs_circuit.specs.Cells.{digit}
use Rattle.cs_circuit.proofs.digits.digits_text.Given as goal

abbrev pub invariant-loop-place : goal.invariant-loop-place
invariant-loop-place l = string_bytes l.text ≡ take l.place (reverse (map digit l.bits))
