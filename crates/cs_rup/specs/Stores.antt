-- Clauses and the literals that watch them.
use Rattle.std.specs.Prelude.{◌≡◌, ℕ, ◌+◌, ◌*◌, ◌%◌, ◌<◌, ◌≤◌, if◌then◌else◌, nat_lt, List, [], Some, get_or, slice_get, length, Contains, ◌⊎◌}
use Rattle.cs_base.specs.declared.formula.Lit.{Lit}
use Rattle.cs_base.specs.declared.formula.Clause.{Clause}
use Rattle.cs_rup.specs.declared.watch.Watch.{Watch}
use Rattle.cs_rup.specs.declared.watch.Watched.{Watched}
use Rattle.cs_rup.specs.declared.store.Store.{Store}
use Rattle.cs_rup.specs.Settings.{Setting, HasTrue, HasPair, IsOpen}
use Rattle.cs_rup.specs.Watchers.{HasPlace}

-- lists of watched clauses
abbrev pub Lists : Type 0
Lists = List (List Watched)

-- the number of a literal: 2 for each variable
abbrev pub code : Lit → ℕ
code lit = 2 * lit.var + (if lit.positive then 0 else 1)

-- the place of a literal's list, among n lists: literals of high variables share them
abbrev pub place_of : ℕ → Lit → ℕ
place_of n lit = if nat_lt (code lit) n then code lit else code lit % n

-- the list at a place
abbrev pub list_at : Lists → ℕ → List Watched
list_at lists index = get_or lists index []

-- a literal's list
abbrev pub list_of : Lists → Lit → List Watched
list_of lists lit = list_at lists (place_of (length lists) lit)

-- one of the two literals has this list, among n
abbrev pub HasList : ℕ → ℕ → Watch → Type 0
HasList n index watch = (place_of n watch.one.lit ≡ index) ⊎ (place_of n watch.other.lit ≡ index)

-- the lists of both literals have the place
abbrev pub IsListed : Lists → Watch → ℕ → Type 0
IsListed lists watch place = HasPlace (list_of lists watch.one.lit) place × HasPlace (list_of lists watch.other.lit) place

-- the literal beside a clause's place is one of the clause
pub record IsBlocked (clauses : List Clause) (watched : Watched) : Type 0 where
  pub clause : Clause
  pub found : slice_get clauses watched.place ≡ Some clause
  pub among : Contains clause.lits watched.other

-- so is each one of the lists
abbrev pub AreBlocked : List Clause → Lists → Type 0
AreBlocked clauses lists =
    (index at : ℕ) (watched : Watched) → slice_get (list_at lists index) at ≡ Some watched → IsBlocked clauses watched

-- where a clause has a watch, the lists of its literals have the clause's place
pub record AreListed (store : Store) : Type 0 where
  pub some : 0 < length store.lists.items
  pub enough : length store.clauses ≤ length store.watches.items
  pub each : (place : ℕ) (watch : Watch) → slice_get store.watches.items place ≡ Some (Some watch)
      → IsListed store.lists.items watch place
  pub blocked : AreBlocked store.clauses store.lists.items

-- the literal is one of the clause at a place of a list
abbrev pub IsAmongAt : Store → ℕ → ℕ → Lit → Type 0
IsAmongAt store index at lit = (watched : Watched) (clause : Clause)
    → slice_get (list_at store.lists.items index) at ≡ Some watched → slice_get store.clauses watched.place ≡ Some clause
    → Contains clause.lits lit

-- lists keep what they have, in place
pub record ListsGrow (old new : Lists) : Type 0 where
  pub count : length new ≡ length old
  pub keeps : (index at : ℕ) (watched : Watched) → slice_get (list_at old index) at ≡ Some watched
      → slice_get (list_at new index) at ≡ Some watched

-- a list keeps in place what stands before one place of it
abbrev pub KeepsBefore : Lists → Lists → ℕ → ℕ → Type 0
KeepsBefore old new index end = (at : ℕ) (watched : Watched) → at < end → slice_get (list_at old index) at ≡ Some watched
    → slice_get (list_at new index) at ≡ Some watched

-- only the lists change
pub record AreSame (old new : Store) : Type 0 where
  pub clauses : new.clauses ≡ old.clauses
  pub watches : new.watches.items ≡ old.watches.items

-- what is watched stays so
abbrev pub KeepsWatches : Store → Store → Type 0
KeepsWatches old new = (place : ℕ) (watch : Watch) → slice_get old.watches.items place ≡ Some (Some watch)
    → slice_get new.watches.items place ≡ Some (Some watch)

-- a clause is watched by two of its literals, both free in some sense
pub record IsWatching (IsFree : Lit → Type 0) (store : Store) (place : ℕ) (lits : List Lit) : Type 0 where
  pub watch : Watch
  pub found : slice_get store.watches.items place ≡ Some (Some watch)
  pub pair : HasPair IsFree watch lits

-- a literal of the clause is true, or two that watch it are not false
abbrev pub IsWatched : Setting → Store → ℕ → List Lit → Type 0
IsWatched s store place lits = HasTrue s lits ⊎ IsWatching (IsOpen s) store place lits

-- so is each clause
abbrev pub AllWatched : Setting → Store → Type 0
AllWatched s store =
    (i : ℕ) (clause : Clause) → slice_get store.clauses i ≡ Some clause → IsWatched s store i clause.lits

-- so is each clause before this place
abbrev pub WatchedBelow : Setting → Store → ℕ → Type 0
WatchedBelow s store seen =
    (i : ℕ) (clause : Clause) → i < seen → slice_get store.clauses i ≡ Some clause → IsWatched s store i clause.lits

-- each clause is watched as before, or by two of its literals that are not false under the setting
pub record IsRewatched (s : Setting) (old new : Store) : Type 0 where
  pub clauses : new.clauses ≡ old.clauses
  pub each : (i : ℕ) (clause : Clause) → slice_get old.clauses i ≡ Some clause
      → (slice_get new.watches.items i ≡ slice_get old.watches.items i) ⊎ IsWatching (IsOpen s) new i clause.lits

-- one clause is watched as before, or by two of its literals that are not false under the setting, the others as before
pub record IsRewatchedAt (s : Setting) (old new : Store) (place : ℕ) (lits : List Lit) : Type 0 where
  pub clauses : new.clauses ≡ old.clauses
  pub others : (i : ℕ) → (i ≡ place → ⊥) → slice_get new.watches.items i ≡ slice_get old.watches.items i
  pub here : (slice_get new.watches.items place ≡ slice_get old.watches.items place)
      ⊎ IsWatching (IsOpen s) new place lits
