use Rattle.std.proofs.Common.{◌≡◌, map, take}
use Rattle.cs_sim.proofs.held.memories.Given as goal

abbrev pub invariant-loop-memory : goal.invariant-loop-memory
invariant-loop-memory l = l.memories.items ≡ map (λ m. m.words) (take l.memory-index l.memory-items)
