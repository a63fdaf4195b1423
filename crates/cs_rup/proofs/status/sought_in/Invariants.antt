-- None of the literals so far is sought.
use Rattle.std.proofs.Common.{◌≡◌, ℕ, ◌<◌, ◌≤◌, false, Some}
use Rattle.std.specs.List.{slice_get}
use Rattle.cs_base.specs.declared.formula.Lit.{Lit as Literal}
use Rattle.cs_rup.specs.Settings.{setting_of, is_sought}
use Rattle.cs_rup.proofs.status.sought_in.Given as goal

abbrev pub invariant-loop-at : goal.invariant-loop-at
invariant-loop-at l =
    (k : ℕ) (lit : Literal) → k < l.at → slice_get l.lits k ≡ Some lit → l.start ≤ k
    → is_sought (setting_of l.values) l.skip lit ≡ false
