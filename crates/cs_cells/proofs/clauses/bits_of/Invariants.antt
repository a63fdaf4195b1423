-- The digits so far, and those of the rest.
use Rattle.std.proofs.Common.{◌≡◌, ◌-◌, ◌++◌}
use Rattle.cs_cells.specs.Clauses.{bits_of}
use Rattle.cs_cells.proofs.clauses.bits_of.Given as goal

abbrev pub invariant-loop : goal.invariant-loop
invariant-loop l = l.bits.items ++ bits_of (l.count - l.counter) l.rest ≡ bits_of l.count l.number
