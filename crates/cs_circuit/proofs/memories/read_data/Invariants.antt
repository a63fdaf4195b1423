use Rattle.std.proofs.Common.{◌≡◌, flat_map, take}
use Rattle.cs_circuit.specs.MemoryCells.{read_data}
use Rattle.cs_circuit.proofs.memories.read_data.Given as goal

abbrev pub invariant-loop-read : goal.invariant-loop-read
invariant-loop-read l = l.signals.items ≡ flat_map (read_data l.width) (take l.read-index l.reads)
