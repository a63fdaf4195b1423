-- The trail grows, and stays one over the clauses.
use Rattle.std.proofs.Common.{◌≡◌, ◌++◌}
use Rattle.cs_sat.specs.Trails.{Grows}
use Rattle.cs_sat.specs.Reasons.{IsOver}
use Rattle.cs_sat.proofs.propagate.look_at_base.Given as goal

abbrev pub invariant-loop-number : goal.invariant-loop-number
invariant-loop-number l = record {
  over : IsOver (l.base ++ l.initial.store.lines) l.trail;
  lines : l.store.lines ≡ l.initial.store.lines;
  grows : Grows l.initial.trail l.trail;
}
