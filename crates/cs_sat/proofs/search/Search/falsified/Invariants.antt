-- The clauses so far have true literals.
use Rattle.std.proofs.Common.{◌≡◌, ℕ, ◌<◌, Some}
use Rattle.std.specs.List.{slice_get}
use Rattle.cs_base.specs.declared.formula.Clause.{Clause as Lits}
use Rattle.cs_sat.specs.Looks.{HasTrue}
use Rattle.cs_sat.proofs.search.Search.falsified.Given as goal

abbrev pub invariant-loop-number : goal.invariant-loop-number
invariant-loop-number l = (i : ℕ) (clause : Lits) → i < l.number → slice_get l.f.clauses i ≡ Some clause
    → HasTrue l.self.trail clause.lits
