-- The clauses wait from the place on to which propagation has come.
use Rattle.std.proofs.Common.{◌-◌, ◌^◌, List}
use Rattle.cs_base.specs.declared.formula.Lit.{Lit as Literal}
use Rattle.cs_rup.specs.Stores.{AreListed, IsRewatched}
use Rattle.cs_rup.specs.Trails.{IsSound, set_by, Grows, AllWait}
use Rattle.cs_rup.proofs.trail.Trail.propagate.Given as goal

abbrev pub invariant-loop-next : goal.invariant-loop-next
invariant-loop-next l = record {
  listed : AreListed l.store;
  rewatched : IsRewatched (set_by l.initial.self) l.initial.store l.store;
  grows : Grows l.initial.self l.self;
  waits : AllWait l.self l.next l.store;
  sound : (given : List Literal) → IsSound l.initial.store.clauses given (set_by l.initial.self)
      → IsSound l.initial.store.clauses given (set_by l.self);
}

abbrev pub decreases-loop-next : goal.decreases-loop-next
decreases-loop-next l = 2 ^ 64 - l.next
