-- Places in a list.
use Rattle.std.proofs.Common.{◌≡◌, ℕ, zero, suc, ◌+◌, ◌≤◌, ◌⊎◌, List, [], ◌∷◌, Some, refl, ap, ◌∙◌, arith, inl, inr}
use Rattle.std.specs.Prelude.{slice_get}
use Rattle.std.proofs.lemmas.Bool.{cases_eq}
use Rattle.std.proofs.lemmas.Bool.Decides.{nat_tests}
use Rattle.cs_order.specs.Graphs.{place_from}

place_here : (i x : ℕ) (xs : List ℕ) (v : ℕ) → x ≡ v → place_from i (x ∷ xs) v ≡ i
place_here i x xs v is = grind (arith, nat_tests)

place_there : (i x : ℕ) (xs : List ℕ) (v : ℕ) → (x ≡ v → ⊥)
    → place_from i (x ∷ xs) v ≡ place_from (i + 1) xs v
place_there i x xs v is = grind (arith, nat_tests)

-- what stands at a place has that place, or an earlier one
pub place_at_most : (i : ℕ) (xs : List ℕ) (k v : ℕ) → slice_get xs k ≡ Some v
    → (i ≤ place_from i xs v) × (place_from i xs v ≤ i + k)
place_at_most i [] k v is = cc
place_at_most i (x ∷ xs) zero v is =
    let here = place_here i x xs v (cc) in (omega arith, omega arith)
place_at_most i (x ∷ xs) (suc k) v is = elim (cases_eq x v) [
  | inl same ↦ let here = place_here i x xs v same in (omega arith, omega arith)
  | inr other ↦
      let there = place_there i x xs v other in
      let h = place_at_most (i + 1) xs k v is in
      (omega arith, omega arith)
]

-- a place is 0, or that of the vertex
pub place_of : (i : ℕ) (xs : List ℕ) (v : ℕ)
    → (place_from i xs v ≡ 0) ⊎ ((k : ℕ) × (place_from i xs v ≡ i + k) × (slice_get xs k ≡ Some v))
place_of i [] v = inl refl
place_of i (x ∷ xs) v = elim (cases_eq x v) [
  | inl same ↦ let here = place_here i x xs v same in inr (0, omega arith, ap (λ y. Some y) same)
  | inr other ↦
      let there = place_there i x xs v other in
      elim (place_of (i + 1) xs v) [
        | inl none ↦ inl (there ∙ none)
        | inr (k, place, stands) ↦ inr (suc k, omega arith, stands)
      ]
]
