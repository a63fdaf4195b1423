use Rattle.std.proofs.Common.{◌≡◌, flat_map, take}
use Rattle.cs_circuit.proofs.memories.write_enables.Given as goal

abbrev pub invariant-loop-write : goal.invariant-loop-write
invariant-loop-write l = l.signals.items ≡ flat_map (λ write. write.enable) (take l.write-index l.writes)
