-- Lists that are made alike.
use Rattle.std.proofs.Common.{◌≡◌, ◌≢◌, ◌⊎◌, ℕ, zero, suc, ◌+◌, ◌<◌, ◌≤◌, List, [], ◌∷◌, ◌++◌, length, map, subst, set, refl, sym, ap, ap₂, ◌∙◌, inl, inr, arith}
use Rattle.std.specs.Prelude.{slice_get, flat_map, Some}
use Rattle.std.proofs.lemmas.Bool.{cases_lt}
use Rattle.std.proofs.lemmas.Option.{none-some, same_Some, slice_get_within}

pub map_same : {A B : Type 0} (f g : A → B) (xs : List A) → ((i : ℕ) (x : A) → slice_get xs i ≡ Some x
    → f x ≡ g x) → map f xs ≡ map g xs
map_same f g [] h = refl
map_same f g (x ∷ xs) h = ap₂ (λ y ys. y ∷ ys) (h 0 x refl) (map_same f g xs (λ i y is. h (suc i) y is))

pub flat_map_same : {A B : Type 0} (f g : A → List B) (xs : List A) → ((i : ℕ) (x : A)
    → slice_get xs i ≡ Some x → f x ≡ g x) → flat_map f xs ≡ flat_map g xs
flat_map_same f g [] h = refl
flat_map_same f g (x ∷ xs) h = ap₂ (λ ys zs. ys ++ zs) (h 0 x refl) (flat_map_same f g xs (λ i y is. h (suc
    i) y is))

-- ---- places of lists

-- a place of the first list is one of both
pub get_left : {A : Type 0} (xs ys : List A) (i : ℕ) (x : A) → slice_get xs i ≡ Some x
    → slice_get (xs ++ ys) i ≡ Some x
get_left [] ys i x h = absurd (none-some x h)
get_left (z ∷ xs) ys zero x h = h
get_left (z ∷ xs) ys (suc i) x h = get_left xs ys i x h

-- the places of the second list come after those of the first
pub get_right : {A : Type 0} (xs ys : List A) (i k : ℕ) → i ≡ length xs + k
    → slice_get (xs ++ ys) i ≡ slice_get ys k
get_right [] ys i k is = ap (slice_get ys) (is ∙ omega arith)
get_right (z ∷ xs) ys zero k is = absurd (omega arith)
get_right (z ∷ xs) ys (suc i) k is = get_right xs ys i k (omega arith)

-- each place of both lists is one of the first or of the second
pub get_append : {A : Type 0} (xs ys : List A) (i : ℕ) (x : A) → slice_get (xs ++ ys) i ≡ Some x
    → (slice_get xs i ≡ Some x) ⊎ ((k : ℕ) × (i ≡ length xs + k) × (slice_get ys k ≡ Some x))
get_append [] ys i x h = inr (i, omega arith, h)
get_append (z ∷ xs) ys zero x h = inl h
get_append (z ∷ xs) ys (suc i) x h = elim (get_append xs ys i x h) [
  | inl left ↦ inl left
  | inr (k, is, right) ↦ inr (k, omega arith, right)
]

-- the one place of a list of one
pub get_single : {A : Type 0} (y x : A) (k : ℕ) → slice_get (y ∷ []) k ≡ Some x → (k ≡ 0) × (x ≡ y)
get_single y x zero h = (refl, sym (same_Some y x h))
get_single y x (suc k) h = absurd (none-some x h)

-- each place of a list with one item set is that one or as before
pub get_set_cases : {A : Type 0} (xs : List A) (i j : ℕ) (y x : A) → slice_get (set xs i y) j ≡ Some x
    → ((j ≡ i) × (x ≡ y)) ⊎ ((j ≢ i) × (slice_get xs j ≡ Some x))
get_set_cases [] i j y x h = absurd (none-some x h)
get_set_cases (z ∷ xs) zero zero y x h = inl (refl, sym (same_Some y x h))
get_set_cases (z ∷ xs) zero (suc j) y x h = inr ((λ e. absurd (omega arith)), h)
get_set_cases (z ∷ xs) (suc i) zero y x h = inr ((λ e. absurd (omega arith)), h)
get_set_cases (z ∷ xs) (suc i) (suc j) y x h = elim (get_set_cases xs i j y x h) [
  | inl (same, is) ↦ inl (ap suc same, is)
  | inr (other, is) ↦ inr ((λ e. other (omega arith)), is)
]

-- ---- facts of each place

-- what holds of the first n places and of the next
pub each_next : {A : Type 0} (xs : List A) (P : ℕ → A → Type 0) (n : ℕ) (y : A)
    → ((i : ℕ) (x : A) → i < n → slice_get xs i ≡ Some x → P i x) → slice_get xs n ≡ Some y → P n y
    → (i : ℕ) (x : A) → i < n + 1 → slice_get xs i ≡ Some x → P i x
each_next xs P n y before at here i x low found = elim (cases_lt i n) [
  | inl less ↦ before i x less found
  | inr more ↦
      let same : n ≡ i = omega (arith, low, more) in
      let one = same_Some y x (sym at ∙ ap (slice_get xs) same ∙ found) in
      subst (λ k. P k x) same (subst (P n) one here)
]

-- what holds of all places that there are
pub each_all : {A : Type 0} (xs : List A) (P : ℕ → A → Type 0) (n : ℕ) → length xs ≤ n
    → ((i : ℕ) (x : A) → i < n → slice_get xs i ≡ Some x → P i x) → (i : ℕ) (x : A)
    → slice_get xs i ≡ Some x → P i x
each_all xs P n all before i x found = let within = slice_get_within xs i x found in before i x (omega
    (arith, within, all)) found
