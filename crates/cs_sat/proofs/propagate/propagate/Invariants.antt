-- The trail grows, and stays one over the clauses.
use Rattle.std.proofs.Common.{◌≡◌, ◌-◌, ◌^◌, ◌++◌}
use Rattle.cs_sat.specs.Trails.{Grows}
use Rattle.cs_sat.specs.Reasons.{IsOver}
use Rattle.cs_sat.proofs.propagate.propagate.Given as goal

abbrev pub invariant-loop-next : goal.invariant-loop-next
invariant-loop-next l = record {
  over : IsOver (l.base ++ l.initial.store.lines) l.trail;
  lines : l.store.lines ≡ l.initial.store.lines;
  grows : Grows l.initial.trail l.trail;
}

abbrev pub decreases-loop-next : goal.decreases-loop-next
decreases-loop-next l = 2 ^ 64 - l.next
