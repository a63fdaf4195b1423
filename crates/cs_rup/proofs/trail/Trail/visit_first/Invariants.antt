-- What each step keeps.
use Rattle.std.proofs.Common.{◌≡◌, List, length}
use Rattle.cs_base.specs.declared.formula.Lit.{Lit as Literal}
use Rattle.cs_rup.specs.Stores.{AreListed, IsRewatched}
use Rattle.cs_rup.specs.Trails.{IsSound, set_by, Grows}
use Rattle.cs_rup.proofs.trail.Trail.visit_first.Given as goal

abbrev pub invariant-loop-at : goal.invariant-loop-at
invariant-loop-at l = record {
  listed : AreListed l.store;
  rewatched : IsRewatched (set_by l.initial.self) l.initial.store l.store;
  grows : Grows l.initial.self l.self;
  count : length l.store.lists.items ≡ length l.initial.store.lists.items;
  sound : (given : List Literal) → IsSound l.initial.store.clauses given (set_by l.initial.self)
      → IsSound l.initial.store.clauses given (set_by l.self);
}

abbrev pub decreases-loop-at : goal.decreases-loop-at
decreases-loop-at l = l.at
