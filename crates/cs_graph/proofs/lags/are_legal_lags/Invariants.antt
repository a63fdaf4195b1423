-- The vertices so far may have their lags.
use Rattle.std.proofs.Common.{◌≡◌, ◌<◌, ℕ, Some}
use Rattle.std.specs.Prelude.{slice_get}
use Rattle.cs_graph.specs.declared.vertex.Vertex.{Vertex}
use Rattle.cs_graph.specs.Lags.{lag_at, IsLegalLag}
use Rattle.cs_graph.proofs.lags.are_legal_lags.Given as goal

abbrev pub invariant-loop-v : goal.invariant-loop-v
invariant-loop-v l = (u : ℕ) (x : Vertex) → u < l.v → slice_get l.vertices u ≡ Some x
    → IsLegalLag l.mode x.kind (lag_at l.lags u)
