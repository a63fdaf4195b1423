-- The clauses of the numbers so far.
use Rattle.std.proofs.Common.{◌≡◌, [], ◌∷◌}
use Rattle.cs_cells.specs.Clauses.{for_each, row_clause}
use Rattle.cs_cells.proofs.clauses.table.Given as goal

abbrev pub invariant-loop-number : goal.invariant-loop-number
invariant-loop-number l = l.clauses.items ≡ for_each (λ number. row_clause l.kind l.out l.pins number ∷ []) l.number
