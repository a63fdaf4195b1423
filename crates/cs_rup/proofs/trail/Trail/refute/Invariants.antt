-- The literals so far are set false.
use Rattle.std.proofs.Common.{◌≡◌, ℕ, ◌<◌, true, Some, List, map}
use Rattle.std.specs.List.{slice_get}
use Rattle.cs_base.specs.declared.formula.Lit.{Lit as Literal}
use Rattle.cs_base.specs.declared.formula.Clause.{Clause as Lits}
use Rattle.cs_base.specs.Derivations.{negated}
use Rattle.cs_rup.specs.Settings.{is_false}
use Rattle.cs_rup.specs.Trails.{IsSound, set_by, Grows}
use Rattle.cs_rup.proofs.trail.Trail.refute.Given as goal

abbrev pub invariant-loop-lit : goal.invariant-loop-lit
invariant-loop-lit l = record {
  grows : Grows l.initial.self l.self;
  given : (k : ℕ) (lit : Literal) → k < l.lit-index → slice_get l.line k ≡ Some lit → is_false (set_by l.self) lit ≡ true;
  sound : (clauses : List Lits) → IsSound clauses (map negated l.line) (set_by l.initial.self)
      → IsSound clauses (map negated l.line) (set_by l.self);
}
