-- The literals so far are not true.
use Rattle.std.proofs.Common.{◌≡◌, ℕ, ◌<◌, false, Some}
use Rattle.std.specs.List.{slice_get}
use Rattle.cs_base.specs.declared.formula.Lit.{Lit as Literal}
use Rattle.cs_sat.specs.Trails.{is_true}
use Rattle.cs_sat.proofs.search.has_true.Given as goal

abbrev pub invariant-loop-lit : goal.invariant-loop-lit
invariant-loop-lit l = (i : ℕ) (lit : Literal) → i < l.lit-index → slice_get l.lits i ≡ Some lit → is_true l.trail lit ≡ false
