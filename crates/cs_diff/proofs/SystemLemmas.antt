-- A system with one more constraint.
use Rattle.std.proofs.Common.{◌≡◌, ℕ, zero, suc, ◌<◌, Bool, true, false, arith, ◌⊎◌, List, [], ◌∷◌, ◌++◌, Some, inl, inr, refl, subst, sym}
use Rattle.std.specs.Prelude.{slice_get}
use Rattle.cs_base.proofs.ListLemmas.{at_push}
use Rattle.cs_diff.specs.declared.system.Constraint.{Constraint}
use Rattle.cs_diff.specs.Ranges.{IsAmong, AreAmong, place_at}

-- constraints stay among the vertices when one that is joins them
pub AreAmong_push : (n : ℕ) (cs : List Constraint) (c : Constraint) → AreAmong n cs → IsAmong n c
    → AreAmong n (cs ++ c ∷ [])
AreAmong_push n cs c all one i d h = elim (at_push cs c i d h) [
  | inl old ↦ all i d old
  | inr (place, new) ↦ subst (IsAmong n) (sym new) one
]

-- the turn of a place is the place of that turn
pub turn_of : (back : Bool) (m i : ℕ) → i < m
    → (place_at back m i < m) × (place_at back m (place_at back m i) ≡ i)
turn_of false m i h = (h, refl)
turn_of true m i h = (omega arith, omega arith)
