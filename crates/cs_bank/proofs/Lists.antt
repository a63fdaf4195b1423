-- Places of lists that are made of others.
use Rattle.std.proofs.Common.{◌≡◌, ℕ, zero, suc, ◌+◌, ◌<◌, List, [], ◌∷◌, ◌++◌, length, map, drop, refl, sym, ap, ap₂, ◌∙◌, arith}
use Rattle.std.specs.Prelude.{flat_map, slice_get, Some}
use Rattle.std.proofs.lemmas.Option.{none-some, same_Some}

-- the item at a place, and those from the next on
pub drop_at : {A : Type 0} (xs : List A) (i : ℕ) (x : A) → slice_get xs i ≡ Some x → drop i xs ≡ x ∷ drop (i + 1) xs
drop_at [] i x h = absurd (none-some x h)
drop_at (y ∷ xs) zero x h =
    let one : 0 + 1 ≡ suc 0 = omega arith in
    ap (λ z. z ∷ xs) (same_Some y x h) ∙ ap (λ zs. x ∷ zs) (sym (drop_none xs) ∙ sym (ap (λ n. drop n (y ∷ xs)) one))
  where
    drop_none : {A : Type 0} (zs : List A) → drop 0 zs ≡ zs
    drop_none [] = refl
    drop_none (z ∷ zs) = refl
drop_at (y ∷ xs) (suc i) x h =
    let next : suc i + 1 ≡ suc (i + 1) = omega arith in
    drop_at xs i x h ∙ ap (λ zs. x ∷ zs) (sym (ap (λ n. drop n (y ∷ xs)) next))

-- a place below the length has an item
pub there : {A : Type 0} (xs : List A) (i : ℕ) → i < length xs → (x : A) × (slice_get xs i ≡ Some x)
there [] i h = absurd (omega (arith, h))
there (x ∷ xs) zero h = (x, refl)
there (x ∷ xs) (suc i) h = there xs i (omega (arith, h))

pub append_assoc : {A : Type 0} (xs ys zs : List A) → (xs ++ ys) ++ zs ≡ xs ++ (ys ++ zs)
append_assoc [] ys zs = refl
append_assoc (x ∷ xs) ys zs = ap (λ r. x ∷ r) (append_assoc xs ys zs)

pub append_none : {A : Type 0} (xs : List A) → xs ++ [] ≡ xs
append_none [] = refl
append_none (x ∷ xs) = ap (λ r. x ∷ r) (append_none xs)

-- a place of the first list, and one of the second
pub get_first : {A : Type 0} (xs ys : List A) (i : ℕ) → i < length xs → slice_get (xs ++ ys) i ≡ slice_get xs i
get_first [] ys i h = absurd (omega (arith, h))
get_first (x ∷ xs) ys zero h = refl
get_first (x ∷ xs) ys (suc i) h = get_first xs ys i (omega (arith, h))

pub get_second : {A : Type 0} (xs ys : List A) (i : ℕ) → slice_get (xs ++ ys) (length xs + i) ≡ slice_get ys i
get_second [] ys i = let place : 0 + i ≡ i = omega arith in ap (slice_get ys) place
get_second (x ∷ xs) ys i =
    let place : suc (length xs) + i ≡ suc (length xs + i) = omega arith in
    ap (slice_get (x ∷ (xs ++ ys))) place ∙ get_second xs ys i

pub get_after : {A : Type 0} (xs ys : List A) (i k : ℕ) → i ≡ length xs + k → slice_get (xs ++ ys) i ≡ slice_get ys k
get_after xs ys i k is = ap (slice_get (xs ++ ys)) is ∙ get_second xs ys k

-- each place of a mapped list was one before
pub was_in : {A B : Type 0} (f : A → B) (xs : List A) (v : ℕ) (y : B) → slice_get (map f xs) v ≡ Some y
    → (x : A) × (slice_get xs v ≡ Some x) × (f x ≡ y)
was_in f [] v y found = absurd (none-some y found)
was_in f (x ∷ xs) zero y found = (x, refl, same_Some (f x) y found)
was_in f (x ∷ xs) (suc v) y found = was_in f xs v y found
