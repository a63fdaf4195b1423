-- The variables so far have no values.
use Rattle.std.proofs.Common.{◌≡◌, ℕ, None, length, get_or}
use Rattle.cs_sat.proofs.trail.empty_table.Given as goal

abbrev pub invariant-loop : goal.invariant-loop
invariant-loop l = record {
  size : length l.table.items ≡ l.counter;
  none : (var : ℕ) → get_or l.table.items var None ≡ None;
}
