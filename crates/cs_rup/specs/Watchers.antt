-- Lists of watched clauses.
use Rattle.std.specs.Prelude.{◌≡◌, ℕ, ◌<◌, List, Some, slice_get}
use Rattle.cs_rup.specs.declared.watch.Watched.{Watched}

-- the item stands somewhere in the list
pub record StandsIn (list : List Watched) (watched : Watched) : Type 0 where
  pub at : ℕ
  pub is : slice_get list at ≡ Some watched

-- the item at a place is taken out: those before it stay in place, and no other one is lost
pub record IsWithout (old new : List Watched) (at : ℕ) : Type 0 where
  pub before : (k : ℕ) (w : Watched) → k < at → slice_get old k ≡ Some w → slice_get new k ≡ Some w
  pub keeps : (k : ℕ) (w : Watched) → (k ≡ at → ⊥) → slice_get old k ≡ Some w → StandsIn new w
  pub alone : (k : ℕ) (w : Watched) → slice_get new k ≡ Some w → StandsIn old w

-- the list has a clause's place
pub record HasPlace (list : List Watched) (place : ℕ) : Type 0 where
  pub at : ℕ
  pub watched : Watched
  pub found : slice_get list at ≡ Some watched
  pub is : watched.place ≡ place
