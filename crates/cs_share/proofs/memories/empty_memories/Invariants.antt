use Rattle.std.proofs.Common.{◌≡◌, map, take}
use Rattle.cs_share.specs.Planned.{empty_memory}
use Rattle.cs_share.proofs.memories.empty_memories.Given as goal

abbrev pub invariant-loop-i : goal.invariant-loop-i
invariant-loop-i l = l.parts.items ≡ map empty_memory (take l.i l.machine.memories)
