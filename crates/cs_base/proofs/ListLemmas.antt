-- The element at a place of a list that grew, was cut or was written to.
use Rattle.std.proofs.Common.{◌≡◌, ℕ, zero, suc, ◌<◌, ◌⊎◌, List, [], ◌∷◌, ◌++◌, length, Some, set, take, replicate, refl, sym, ap, ◌∙◌, arith, inl, inr}
use Rattle.std.specs.Prelude.{slice_get, Contains}
use Rattle.std.proofs.lemmas.Option.{slice_get_within, slice_get-get_or, get_or_from_slice_get}
use Rattle.std.proofs.lemmas.List.{length-replicate, get_or-replicate}

-- what a list contains stands at some place of it
pub contains_at : {A : Type 0} (xs : List A) (x : A) → Contains xs x → (i : ℕ) × (slice_get xs i ≡ Some x)
contains_at xs x (i, below, is) = (i, slice_get-get_or xs i x below ∙ ap (λ y. Some y) is)

pub at_contains : {A : Type 0} (xs : List A) (i : ℕ) (x : A) → slice_get xs i ≡ Some x → Contains xs x
at_contains xs i x is = (i, slice_get_within xs i x is, get_or_from_slice_get xs i x x is)

pub same_element : {A : Type 0} (xs : List A) (i : ℕ) (x y : A) → slice_get xs i ≡ Some x
    → slice_get xs i ≡ Some y → x ≡ y
same_element xs i x y a b = cc

pub at_push_old : {A : Type 0} (xs : List A) (y : A) (i : ℕ) (x : A) → slice_get xs i ≡ Some x
    → slice_get (xs ++ y ∷ []) i ≡ Some x
at_push_old [] y i x is = cc
at_push_old (z ∷ xs) y zero x is = is
at_push_old (z ∷ xs) y (suc i) x is = at_push_old xs y i x is

pub at_push_new : {A : Type 0} (xs : List A) (y : A) → slice_get (xs ++ y ∷ []) (length xs) ≡ Some y
at_push_new [] y = refl
at_push_new (z ∷ xs) y = at_push_new xs y

-- an element of a list with one more: an old one, or the new one at the end
pub at_push : {A : Type 0} (xs : List A) (y : A) (i : ℕ) (x : A)
    → slice_get (xs ++ y ∷ []) i ≡ Some x → (slice_get xs i ≡ Some x) ⊎ ((i ≡ length xs) × (x ≡ y))
at_push [] y zero x is = inr (refl, cc)
at_push [] y (suc i) x is = cc
at_push (z ∷ xs) y zero x is = inl is
at_push (z ∷ xs) y (suc i) x is = elim (at_push xs y i x is) [
  | inl old ↦ inl old
  | inr (place, new) ↦ inr (ap suc place, new)
]

pub at_take : {A : Type 0} (n : ℕ) (xs : List A) (i : ℕ) (x : A) → slice_get (take n xs) i ≡ Some x
    → (i < n) × (slice_get xs i ≡ Some x)
at_take zero xs i x is = cc
at_take (suc n) [] i x is = cc
at_take (suc n) (y ∷ xs) zero x is = (omega arith, is)
at_take (suc n) (y ∷ xs) (suc i) x is = let h = at_take n xs i x is in (omega arith, h.1)

pub take_at : {A : Type 0} (n : ℕ) (xs : List A) (i : ℕ) (x : A) → i < n → slice_get xs i ≡ Some x
    → slice_get (take n xs) i ≡ Some x
take_at zero xs i x below is = absurd (omega arith)
take_at (suc n) [] i x below is = is
take_at (suc n) (y ∷ xs) zero x below is = is
take_at (suc n) (y ∷ xs) (suc i) x below is = take_at n xs i x (omega arith) is

pub at_set_same : {A : Type 0} (xs : List A) (i : ℕ) (y : A) → i < length xs
    → slice_get (set xs i y) i ≡ Some y
at_set_same [] i y below = absurd (omega arith)
at_set_same (x ∷ xs) zero y below = refl
at_set_same (x ∷ xs) (suc i) y below = at_set_same xs i y (omega arith)

pub at_set_other : {A : Type 0} (xs : List A) (i j : ℕ) (y : A) → (j ≡ i → ⊥)
    → slice_get (set xs i y) j ≡ slice_get xs j
at_set_other [] i j y other = refl
at_set_other (x ∷ xs) zero zero y other = absurd (other refl)
at_set_other (x ∷ xs) zero (suc j) y other = refl
at_set_other (x ∷ xs) (suc i) zero y other = refl
at_set_other (x ∷ xs) (suc i) (suc j) y other = at_set_other xs i j y (λ is. other (ap suc is))

-- one and the same everywhere
pub at_replicate : {A : Type 0} (n i : ℕ) (a x : A) → slice_get (replicate n a) i ≡ Some x → x ≡ a
at_replicate n i a x is =
    let within = slice_get_within (replicate n a) i x is in
    sym (get_or_from_slice_get (replicate n a) i x x is) ∙ get_or-replicate n i a x
    (omega (arith, length-replicate n a))
