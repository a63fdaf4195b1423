-- The clauses of the numbers so far.
use Rattle.std.proofs.Common.{◌≡◌, get_or}
use Rattle.cs_cells.specs.Clauses.{for_each, datum_clauses}
use Rattle.cs_cells.proofs.clauses.select_table.Given as goal

abbrev pub invariant-loop-number : goal.invariant-loop-number
invariant-loop-number l =
    l.clauses.items ≡ for_each (λ number. datum_clauses l.out l.selects (get_or l.data_pins number l.out) number) l.number
