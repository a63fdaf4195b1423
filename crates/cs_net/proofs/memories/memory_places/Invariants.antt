use Rattle.std.proofs.Common.{◌≡◌, ◌≤◌, ◌++◌, drop}
use Rattle.cs_net.specs.Build.{places_from}
use Rattle.cs_net.proofs.memories.memory_places.Given as goal

abbrev pub invariant-loop-shape : goal.invariant-loop-shape
invariant-loop-shape l =
    (l.places ++ places_from l.count (drop l.shape-index l.shapes) ≡ places_from 0 l.shapes) × (l.count ≤ l.shape-index)
