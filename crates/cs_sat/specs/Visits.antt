-- What becomes of a clause that is visited.
use Rattle.std.specs.Prelude.{ℕ, List}
use Rattle.cs_base.specs.declared.formula.Clause.{Clause}
use Rattle.cs_sat.specs.declared.trail.Trail.{Trail}
use Rattle.cs_sat.specs.declared.propagate.Visit.{Visit}
use Rattle.cs_sat.specs.declared.propagate.Visit.TheVariants.{Stays, Moves, Conflict}
use Rattle.cs_sat.specs.Reasons.{IsConflict}

-- a conflict is one
abbrev pub IsVisit : List Clause → Trail → ℕ → Visit → Type 0
IsVisit clauses trail number Stays = Unit {0}
IsVisit clauses trail number Moves = Unit {0}
IsVisit clauses trail number Conflict = IsConflict clauses trail number
