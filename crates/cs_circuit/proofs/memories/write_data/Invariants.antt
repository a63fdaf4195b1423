use Rattle.std.proofs.Common.{◌≡◌, flat_map, take}
use Rattle.cs_circuit.proofs.memories.write_data.Given as goal

abbrev pub invariant-loop-write : goal.invariant-loop-write
invariant-loop-write l = l.signals.items ≡ flat_map (λ write. write.data) (take l.write-index l.writes)
