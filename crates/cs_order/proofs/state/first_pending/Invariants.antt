-- The sources so far are passed over.
use Rattle.std.proofs.Common.{◌-◌, ◌≤◌, length}
use Rattle.cs_order.specs.Searches.{ArePassed}
use Rattle.cs_order.proofs.state.first_pending.Given as goal

abbrev pub invariant-loop-at : goal.invariant-loop-at
invariant-loop-at l = record {
  ahead : l.from ≤ l.at;
  passed : ArePassed l.states l.sources l.from l.at;
}

abbrev pub decreases-loop-at : goal.decreases-loop-at
decreases-loop-at l = length l.sources - l.at
