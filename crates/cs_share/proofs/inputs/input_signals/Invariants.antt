use Rattle.std.proofs.Common.{◌≡◌, ◌++◌, drop}
use Rattle.cs_share.specs.Ports.{input_signals}
use Rattle.cs_share.proofs.inputs.input_signals.Given as goal

abbrev pub invariant-loop-port : goal.invariant-loop-port
invariant-loop-port l = l.signals.items ++ input_signals (drop l.port-index l.ports) ≡ input_signals l.ports
