use Rattle.std.proofs.Common.{◌≡◌, flat_map, map, nat_lt}
use Rattle.cs_modules.specs.Pins.{count_from}
use Rattle.cs_circuit.proofs.digits.priorities_text.Given as goal

abbrev pub invariant-loop-i : goal.invariant-loop-i
invariant-loop-i l = l.bits.items ≡ flat_map (λ i. map (λ j. nat_lt j i) (count_from 0 l.count)) (count_from 0 l.i)
