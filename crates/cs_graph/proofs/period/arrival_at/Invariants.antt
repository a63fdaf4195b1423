-- The latest of the vertex and the pins so far.
use Rattle.std.proofs.Common.{◌≤◌, ◌+◌, ℕ}
use Rattle.cs_graph.specs.Arrivals.{AreAtMost}
use Rattle.cs_graph.proofs.ArrivalLemmas.{IsLatestSoFar}
use Rattle.cs_graph.proofs.period.arrival_at.Given as goal

abbrev pub invariant-loop-pin : goal.invariant-loop-pin
invariant-loop-pin l = record {
  so_far : IsLatestSoFar l.graph l.lags l.delays l.arrivals l.v l.pin l.latest;
  few : (most : ℕ) → AreAtMost l.arrivals most → l.latest ≤ most + 1000000;
}
