-- The literals so far are within the number.
use Rattle.std.proofs.Common.{◌≡◌, ℕ, ◌<◌, ◌≤◌, Some}
use Rattle.std.specs.List.{slice_get}
use Rattle.cs_base.specs.declared.formula.Lit.{Lit as Literal}
use Rattle.cs_sat_tests.proofs.formulas.are_within.Given as goal

abbrev pub invariant-loop-lit : goal.invariant-loop-lit
invariant-loop-lit l = (i : ℕ) (lit : Literal) → i < l.lit-index → slice_get l.lits i ≡ Some lit
    → (1 ≤ lit.var) × (lit.var ≤ l.vars)
