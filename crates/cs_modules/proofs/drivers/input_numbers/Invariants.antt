use Rattle.std.proofs.Common.{◌≡◌, ◌++◌, drop}
use Rattle.cs_modules.specs.PinBits.{input_numbers_of}
use Rattle.cs_modules.proofs.drivers.input_numbers.Given as goal

abbrev pub invariant-loop-port : goal.invariant-loop-port
invariant-loop-port l = l.numbers.items ++ input_numbers_of (drop l.port-index l.ports) ≡ input_numbers_of l.ports
