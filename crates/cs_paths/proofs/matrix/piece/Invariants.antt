-- The first rows of the piece are made, and nothing waits.
use Rattle.std.proofs.Common.{◌-◌, ℕ}
use Rattle.cs_paths.specs.Rows.{AreRowsFrom}
use Rattle.cs_paths.specs.Waitings.{Waits}
use Rattle.cs_paths.proofs.matrix.piece.Given as goal

abbrev pub invariant-loop-u : goal.invariant-loop-u
invariant-loop-u l = record {
  rows : AreRowsFrom l.machine l.delays l.first (l.u - l.first) l.rows.items;
  idle : (k : ℕ × ℕ) → Waits l.waiting k → ⊥;
}
