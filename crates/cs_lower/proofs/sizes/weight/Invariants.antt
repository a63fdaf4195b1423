-- What is counted and what is left make the whole.
use Rattle.std.proofs.Common.{◌≡◌, ◌+◌, ◌-◌, ◌^◌, ◌≤◌, drop, map, min}
use Rattle.cs_graph.specs.Draft.{weight}
use Rattle.cs_lower.specs.Lowered.{vertex_of}
use Rattle.cs_lower.proofs.sizes.weight.Given as goal

abbrev pub invariant-loop-piece : goal.invariant-loop-piece
invariant-loop-piece l =
    (min (l.count + weight (map (vertex_of l.plan) (drop l.piece-index l.pieces))) (2 ^ 64 - 1)
    ≡ min (weight (map (vertex_of l.plan) l.pieces)) (2 ^ 64 - 1))
    × (l.count ≤ 2 ^ 64 - 1)
