-- The edges so far lead on to the end, and attain.
use Rattle.std.proofs.Common.{◌-◌, length}
use Rattle.cs_paths.proofs.TraceLemmas.{IsTail}
use Rattle.cs_paths.proofs.tracing.edges_back.Given as goal

abbrev pub invariant-loop-e : goal.invariant-loop-e
invariant-loop-e l = IsTail l.machine l.delays l.row l.fn.v l.at l.edges.items

abbrev pub decreases-loop-e : goal.decreases-loop-e
decreases-loop-e l = length l.machine.vertices - length l.edges.items
