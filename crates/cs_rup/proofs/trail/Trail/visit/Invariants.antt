-- The clauses from one place of the list on were looked at, and those before it stand as they did.
use Rattle.std.proofs.Common.{◌≡◌, ℕ, ◌≤◌, Some, List, length}
use Rattle.std.specs.List.{slice_get}
use Rattle.cs_base.specs.declared.formula.Lit.{Lit as Literal}
use Rattle.cs_base.specs.declared.formula.Clause.{Clause as Lits}
use Rattle.cs_rup.specs.declared.watch.Watched.{Watched as Entry}
use Rattle.cs_rup.specs.Stores.{AreListed, IsRewatched, KeepsBefore, list_at}
use Rattle.cs_rup.specs.Trails.{IsSound, set_by, Grows, Waits}
use Rattle.cs_rup.proofs.trail.Trail.visit.Given as goal

abbrev pub invariant-loop-at : goal.invariant-loop-at
invariant-loop-at l = record {
  listed : AreListed l.store;
  rewatched : IsRewatched (set_by l.initial.self) l.initial.store l.store;
  grows : Grows l.initial.self l.self;
  count : length l.store.lists.items ≡ length l.initial.store.lists.items;
  within : l.at ≤ length (list_at l.initial.store.lists.items l.index);
  before : KeepsBefore l.initial.store.lists.items l.store.lists.items l.index l.at;
  waits : (k : ℕ) (entry : Entry) (clause : Lits) → l.at ≤ k
      → slice_get (list_at l.initial.store.lists.items l.index) k ≡ Some entry
      → slice_get l.initial.store.clauses entry.place ≡ Some clause
      → Waits l.self (length l.initial.self.lits.items) l.store entry.place clause.lits;
  sound : (given : List Literal) → IsSound l.initial.store.clauses given (set_by l.initial.self)
      → IsSound l.initial.store.clauses given (set_by l.self);
}

abbrev pub decreases-loop-at : goal.decreases-loop-at
decreases-loop-at l = l.at
