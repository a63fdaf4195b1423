use Rattle.std.proofs.Common.{◌≡◌, ◌+◌, ◌++◌, map}
use Rattle.cs_base.specs.declared.signal.Signal.TheVariants.{Bit}
use Rattle.cs_modules.specs.Pins.{count_from}
use Rattle.cs_circuit.proofs.memories.add_read_data.Given as goal

abbrev pub invariant-loop-j : goal.invariant-loop-j
invariant-loop-j l = l.signals.items ≡ l.fn.signals.items ++ map (λ j. Bit (l.read.first + j)) (count_from 0 l.j)
