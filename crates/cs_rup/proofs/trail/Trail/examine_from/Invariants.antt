-- The clauses that were looked at wait.
use Rattle.std.proofs.Common.{◌≡◌, ℕ, ◌<◌, ◌≤◌, Some, List}
use Rattle.std.specs.List.{slice_get}
use Rattle.cs_base.specs.declared.formula.Lit.{Lit as Literal}
use Rattle.cs_base.specs.declared.formula.Clause.{Clause as Lits}
use Rattle.cs_rup.specs.Stores.{AreListed, IsRewatched}
use Rattle.cs_rup.specs.Trails.{IsSound, set_by, Grows, Waits}
use Rattle.cs_rup.proofs.trail.Trail.examine_from.Given as goal

abbrev pub invariant-loop-place : goal.invariant-loop-place
invariant-loop-place l = record {
  listed : AreListed l.store;
  rewatched : IsRewatched (set_by l.initial.self) l.initial.store l.store;
  grows : Grows l.initial.self l.self;
  waits : (k : ℕ) (clause : Lits) → k < l.place → slice_get l.initial.store.clauses k ≡ Some clause → l.first ≤ k
      → Waits l.self 0 l.store k clause.lits;
  sound : (given : List Literal) → IsSound l.initial.store.clauses given (set_by l.initial.self)
      → IsSound l.initial.store.clauses given (set_by l.self);
}
