-- The literals so far are false, but the first one.
use Rattle.std.proofs.Common.{◌≡◌, ℕ, ◌<◌, true, Some}
use Rattle.std.specs.List.{slice_get}
use Rattle.cs_base.specs.declared.formula.Lit.{Lit as Literal}
use Rattle.cs_sat.specs.Trails.{is_false}
use Rattle.cs_sat.proofs.look.other_open.Given as goal

abbrev pub invariant-loop-place : goal.invariant-loop-place
invariant-loop-place l = (i : ℕ) (lit : Literal) → i < l.place → slice_get l.lits i ≡ Some lit → (lit ≡ l.first → ⊥)
    → is_false l.trail lit ≡ true
