-- The vertices so far have their arrivals, and the period is the greatest of them.
use Rattle.cs_graph.proofs.PathLemmas.{IsSweep}
use Rattle.cs_graph.proofs.period.period_along.Given as goal

abbrev pub invariant-loop-turn : goal.invariant-loop-turn
invariant-loop-turn l = IsSweep l.graph l.lags l.delays l.order l.turn l.arrivals.items l.period
