-- The ports that are left come behind those that are written.
use Rattle.std.proofs.Common.{◌≡◌, ◌+◌, ◌<◌, ◌++◌, drop, length}
use Rattle.std.specs.Prelude.{◌^◌}
use Rattle.cs_share.specs.Ports.{input_signals, written_ports}
use Rattle.cs_share.proofs.ports.written_ports.Given as goal

abbrev pub invariant-loop-port : goal.invariant-loop-port
invariant-loop-port l = record {
  room : l.next + length (input_signals (drop l.port-index l.ports)) < 2 ^ 32;
  so_far : l.written ++ written_ports l.next l.rest (drop l.port-index l.ports) ≡ written_ports 2 l.outputs l.ports;
}
