-- What each step keeps.
use Rattle.std.proofs.Common.{◌-◌, ◌^◌, List}
use Rattle.cs_base.specs.declared.formula.Lit.{Lit as Literal}
use Rattle.cs_rup.specs.Stores.{AreListed, IsRewatched}
use Rattle.cs_rup.specs.Trails.{IsSound, set_by, Grows}
use Rattle.cs_rup.proofs.trail.Trail.propagate_first.Given as goal

abbrev pub invariant-loop-place : goal.invariant-loop-place
invariant-loop-place l = record {
  listed : AreListed l.store;
  rewatched : IsRewatched (set_by l.initial.self) l.initial.store l.store;
  grows : Grows l.initial.self l.self;
  sound : (given : List Literal) → IsSound l.initial.store.clauses given (set_by l.initial.self)
      → IsSound l.initial.store.clauses given (set_by l.self);
}

abbrev pub decreases-loop-place : goal.decreases-loop-place
decreases-loop-place l = 2 ^ 64 - l.place
