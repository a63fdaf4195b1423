-- The lags so far are small.
use Rattle.std.proofs.Common.{ℕ, ◌<◌}
use Rattle.cs_base.specs.Ranges.{IsSmall}
use Rattle.cs_graph.specs.Lags.{lag_at}
use Rattle.cs_graph.proofs.lags.are_within.Given as goal

abbrev pub invariant-loop-place : goal.invariant-loop-place
invariant-loop-place l = (i : ℕ) → i < l.place → IsSmall (lag_at l.lags i)
