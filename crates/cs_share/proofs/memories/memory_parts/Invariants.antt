-- The ports among the vertices so far.
use Rattle.std.proofs.Common.{◌≡◌, map, take}
use Rattle.std.specs.List.{enumerate_from}
use Rattle.cs_share.specs.Planned.{planned_memory}
use Rattle.cs_share.proofs.memories.memory_parts.Given as goal

abbrev pub invariant-loop-v : goal.invariant-loop-v
invariant-loop-v l =
    l.parts.items
    ≡ map (planned_memory (take l.v l.machine.vertices) l.numbers l.signals) (enumerate_from 0 l.machine.memories)
