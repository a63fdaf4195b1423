-- Places of lists, and lists that are made alike place by place.
use Rattle.std.proofs.Common.{◌≡◌, ℕ, suc, Bool, true, List, [], ◌∷◌, ◌++◌, length, map, Some, flat_map, refl, ap, ap₂, ◌∙◌, arith}
use Rattle.std.specs.Prelude.{slice_get}
use Rattle.std.specs.List.{list_any}
use Rattle.std.proofs.lemmas.List.Folds.{list_any_at}
use Rattle.std.proofs.lemmas.Option.{get_or_from_slice_get, slice_get_within}

-- one item that passes a test
pub any_place : {A : Type 0} (test : A → Bool) (xs : List A) (i : ℕ) (x : A) → slice_get xs i ≡ Some x
    → test x ≡ true → list_any test xs ≡ true
any_place test xs i x at is =
    list_any_at test xs i x (slice_get_within xs i x at) (ap test (get_or_from_slice_get xs i x x at) ∙ is)

-- ---- two lists of as many items

pub map_alike : {A B C : Type 0} (f : A → C) (h : B → C) (xs : List A) (ys : List B) → length xs ≡ length ys
    → ((i : ℕ) (x : A) (y : B) → slice_get xs i ≡ Some x → slice_get ys i ≡ Some y → f x ≡ h y) → map f xs ≡ map h ys
map_alike f h [] [] count each = refl
map_alike f h [] (y ∷ ys) count each = absurd (omega (arith, count))
map_alike f h (x ∷ xs) [] count each = absurd (omega (arith, count))
map_alike f h (x ∷ xs) (y ∷ ys) count each =
    ap₂ (λ a rest. a ∷ rest) (each 0 x y refl refl)
    (map_alike f h xs ys (omega (arith, count)) (λ i a b at at'. each (suc i) a b at at'))

pub flat_map_alike : {A B C : Type 0} (f : A → List C) (h : B → List C) (xs : List A) (ys : List B)
    → length xs ≡ length ys
    → ((i : ℕ) (x : A) (y : B) → slice_get xs i ≡ Some x → slice_get ys i ≡ Some y → f x ≡ h y)
    → flat_map f xs ≡ flat_map h ys
flat_map_alike f h [] [] count each = refl
flat_map_alike f h [] (y ∷ ys) count each = absurd (omega (arith, count))
flat_map_alike f h (x ∷ xs) [] count each = absurd (omega (arith, count))
flat_map_alike f h (x ∷ xs) (y ∷ ys) count each =
    ap₂ (λ a rest. a ++ rest) (each 0 x y refl refl)
    (flat_map_alike f h xs ys (omega (arith, count)) (λ i a b at at'. each (suc i) a b at at'))
