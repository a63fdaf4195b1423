-- A search goes on, and has less to do.
use Rattle.std.proofs.Common.{◌≡◌, ◌-◌, length}
use Rattle.cs_paths.specs.Waitings.{position}
use Rattle.cs_paths.proofs.RoundLemmas.{Searches, most_position}
use Rattle.cs_paths.proofs.row.search.Given as goal

abbrev pub invariant-loop-weight : goal.invariant-loop-weight
invariant-loop-weight l = record {
  rows : length l.row ≡ length l.machine.vertices;
  flags : length l.settled ≡ length l.initial.settled;
  search : Searches l.machine l.delays l.guide l.fn.u l.row l.settled l.waiting;
}

abbrev pub decreases-loop-weight : goal.decreases-loop-weight
decreases-loop-weight l = most_position - position l.waiting
