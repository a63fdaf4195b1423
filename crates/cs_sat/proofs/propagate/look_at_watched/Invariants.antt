-- The trail grows, and stays one over the clauses.
use Rattle.std.proofs.Common.{◌≡◌, ◌++◌}
use Rattle.cs_sat.specs.Trails.{Grows}
use Rattle.cs_sat.specs.Reasons.{IsOver}
use Rattle.cs_sat.proofs.propagate.look_at_watched.Given as goal

abbrev pub invariant-loop-at : goal.invariant-loop-at
invariant-loop-at l = record {
  over : IsOver (l.base ++ l.initial.store.lines) l.trail;
  lines : l.store.lines ≡ l.initial.store.lines;
  grows : Grows l.initial.trail l.trail;
}
