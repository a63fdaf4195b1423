-- The pins of the vertices so far have their delays.
use Rattle.std.proofs.Common.{◌≡◌, ℕ, ◌<◌, List, length, Some}
use Rattle.std.specs.Prelude.{slice_get}
use Rattle.cs_graph.specs.declared.vertex.Vertex.{Vertex}
use Rattle.cs_graph.proofs.machine.are_delays_of.Given as goal

abbrev pub invariant-loop-v : goal.invariant-loop-v
invariant-loop-v l = (u : ℕ) (x : Vertex) → u < l.v → slice_get l.vertices u ≡ Some x
    → (ds : List ℕ) → slice_get l.delays.per_pin u ≡ Some ds → length ds ≡ length x.pins
