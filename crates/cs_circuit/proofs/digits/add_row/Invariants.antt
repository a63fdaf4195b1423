use Rattle.std.proofs.Common.{◌≡◌, ◌++◌, map, nat_lt}
use Rattle.cs_modules.specs.Pins.{count_from}
use Rattle.cs_circuit.proofs.digits.add_row.Given as goal

abbrev pub invariant-loop-j : goal.invariant-loop-j
invariant-loop-j l = l.bits.items ≡ l.fn.bits.items ++ map (λ j. nat_lt j l.i) (count_from 0 l.j)
