-- The edges so far have weights.
use Rattle.std.proofs.Common.{◌≡◌, ◌<◌, ℕ, Some}
use Rattle.std.specs.Prelude.{slice_get, pos, ◌≤ℤ◌}
use Rattle.cs_graph.specs.declared.edge.Edge.{Edge}
use Rattle.cs_graph.specs.Lags.{weight_under}
use Rattle.cs_graph.proofs.lags.are_weights.Given as goal

abbrev pub invariant-loop-edge : goal.invariant-loop-edge
invariant-loop-edge l = (e : ℕ) (d : Edge) → e < l.edge-index → slice_get l.edges e ≡ Some d
    → pos 0 ≤ℤ (weight_under l.lags d)
