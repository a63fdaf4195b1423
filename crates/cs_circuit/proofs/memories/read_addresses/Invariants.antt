use Rattle.std.proofs.Common.{◌≡◌, flat_map, take}
use Rattle.cs_circuit.proofs.memories.read_addresses.Given as goal

abbrev pub invariant-loop-read : goal.invariant-loop-read
invariant-loop-read l = l.signals.items ≡ flat_map (λ read. read.address) (take l.read-index l.reads)
