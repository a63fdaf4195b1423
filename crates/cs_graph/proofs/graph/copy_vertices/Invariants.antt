-- The first vertices are copied.
use Rattle.std.proofs.Common.{◌≡◌, take}
use Rattle.cs_graph.proofs.graph.copy_vertices.Given as goal

abbrev pub invariant-loop-vertex : goal.invariant-loop-vertex
invariant-loop-vertex l = l.copies ≡ take l.vertex-index l.vertices
