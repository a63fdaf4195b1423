-- Propagation: what is set, in order, and which clauses are still to be looked at.
use Rattle.std.specs.Prelude.{◌≡◌, ℕ, ◌≤◌, true, List, Some, slice_get, length, ◌⊎◌}
use Rattle.cs_base.specs.declared.formula.Lit.{Lit}
use Rattle.cs_base.specs.declared.formula.Clause.{Clause}
use Rattle.cs_base.specs.Derivations.{negated, IsSet, MeetsConflict}
use Rattle.cs_rup.specs.declared.trail.Trail.{Trail}
use Rattle.cs_rup.specs.declared.error.Stop.{Stop}
use Rattle.cs_rup.specs.declared.error.Stop.TheVariants.{Conflict, NoMemory}
use Rattle.cs_rup.specs.declared.store.Store.{Store}
use Rattle.cs_rup.specs.Settings.{Setting, setting_of, is_true, HasTrue, IsOpen}
use Rattle.cs_rup.specs.Stores.{IsWatching}

-- all that is set true is set by propagation from what is given
abbrev pub IsSound : List Clause → List Lit → Setting → Type 0
IsSound clauses given s = (t : Lit) → is_true s t ≡ true → IsSet clauses given t

-- propagation stopped at a conflict, or for want of memory
abbrev pub Explains : List Clause → List Lit → Stop → Type 0
Explains clauses given Conflict = MeetsConflict clauses given
Explains clauses given NoMemory = Unit {0}

-- what a trail sets
abbrev pub set_by : Trail → Setting
set_by trail = setting_of trail.values

-- whatever is given, all that is set true still follows
abbrev pub StaysSound : List Clause → Trail → Trail → Type 0
StaysSound clauses old new =
    (given : List Lit) → IsSound clauses given (set_by old) → IsSound clauses given (set_by new)

-- whatever is given from which all that is set true follows, the stop is explained
abbrev pub ExplainsAny : List Clause → Trail → Stop → Type 0
ExplainsAny clauses trail stop =
    (given : List Lit) → IsSound clauses given (set_by trail) → Explains clauses given stop

-- neither the literal nor its negation is set true
abbrev pub HasNoValue : Setting → Lit → Type 0
HasNoValue s lit = (t : Lit) → t.var ≡ lit.var → is_true s t ≡ true → ⊥

-- literals are put behind the others, and nothing else is set
pub record Grows (old new : Trail) : Type 0 where
  pub stays : (t : Lit) → is_true (set_by old) t ≡ true → is_true (set_by new) t ≡ true
  pub longer : length old.lits.items ≤ length new.lits.items
  pub places : (i : ℕ) (t : Lit) → slice_get old.lits.items i ≡ Some t → slice_get new.lits.items i ≡ Some t
  pub fresh : (t : Lit) → is_true (set_by new) t ≡ true
      → (is_true (set_by old) t ≡ true)
      ⊎ ((i : ℕ) × (length old.lits.items ≤ i) × (slice_get new.lits.items i ≡ Some t))
  pub unset : (i : ℕ) (t : Lit) → length old.lits.items ≤ i → slice_get new.lits.items i ≡ Some t
      → HasNoValue (set_by old) t

-- no literal of the trail from this place on has this one's variable
abbrev pub IsOffFrom : Trail → ℕ → Lit → Type 0
IsOffFrom trail place t =
    (i : ℕ) (lit : Lit) → place ≤ i → slice_get trail.lits.items i ≡ Some lit → t.var ≡ lit.var → ⊥

-- the last literals are taken from the trail, their variables have no value any more, and nothing else changes
pub record IsUndone (old new : Trail) : Type 0 where
  pub places : (i : ℕ) (t : Lit) → slice_get new.lits.items i ≡ Some t → slice_get old.lits.items i ≡ Some t
  pub stays : (t : Lit) → is_true (set_by old) t ≡ true → IsOffFrom old (length new.lits.items) t
      → is_true (set_by new) t ≡ true
  pub alone : (t : Lit) → is_true (set_by new) t ≡ true
      → (is_true (set_by old) t ≡ true) × IsOffFrom old (length new.lits.items) t

-- a literal is not false, or was set false at place `next` of the trail or later
abbrev pub IsReady : Trail → ℕ → Lit → Type 0
IsReady trail next lit =
    IsOpen (set_by trail) lit ⊎ ((place : ℕ) × (next ≤ place) × (slice_get trail.lits.items place ≡ Some (negated lit)))

-- a literal of the clause is true, or it is looked at when propagation comes to a place from `next` on
abbrev pub Waits : Trail → ℕ → Store → ℕ → List Lit → Type 0
Waits trail next store place lits = HasTrue (set_by trail) lits ⊎ IsWatching (IsReady trail next) store place lits

-- so is each clause
abbrev pub AllWait : Trail → ℕ → Store → Type 0
AllWait trail next store =
    (i : ℕ) (clause : Clause) → slice_get store.clauses i ≡ Some clause → Waits trail next store i clause.lits
