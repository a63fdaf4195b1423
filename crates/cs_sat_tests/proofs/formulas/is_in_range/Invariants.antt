-- The clauses so far are within the number.
use Rattle.std.proofs.Common.{◌≡◌, ℕ, ◌<◌, ◌≤◌, Some}
use Rattle.std.specs.List.{All, slice_get}
use Rattle.cs_base.specs.declared.formula.Lit.{Lit as Literal}
use Rattle.cs_base.specs.declared.formula.Clause.{Clause as Lits}
use Rattle.cs_sat_tests.proofs.formulas.is_in_range.Given as goal

abbrev pub invariant-loop-clause : goal.invariant-loop-clause
invariant-loop-clause l = (i : ℕ) (clause : Lits) → i < l.clause-index → slice_get l.clause-items i ≡ Some clause
    → All (λ (lit : Literal). (1 ≤ lit.var) × (lit.var ≤ l.f.vars)) clause.lits
