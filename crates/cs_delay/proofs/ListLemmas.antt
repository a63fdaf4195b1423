-- Lists that are made or gone through place by place.
use Rattle.std.proofs.Common.{◌≡◌, ℕ, zero, suc, ◌+◌, List, [], ◌∷◌, ◌++◌, length, map, take, drop, Bool, false, ◌||◌, Some, refl, sym, ap, ◌∙◌, add-one, arith}
use Rattle.std.specs.Prelude.{slice_get}
use Rattle.std.specs.List.{list_any, range_with_len}
use Rattle.std.proofs.lemmas.List.FromFn.{map-range_with_len_more}
use Rattle.std.proofs.lemmas.List.Folds.{list_any-append}

map-append : {A B : Type 0} (f : A → B) (xs ys : List A) → map f (xs ++ ys) ≡ map f xs ++ map f ys
map-append f [] ys = refl
map-append f (x ∷ xs) ys = ap (λ rest. f x ∷ rest) (map-append f xs ys)

or-false : (b : Bool) → (b || false) ≡ b
or-false b = grind arith

-- one pin more
pub map_more : {A B : Type 0} (f : A → B) (g : ℕ → A) (i : ℕ)
    → map f (map g (range_with_len 0 (i + 1))) ≡ map f (map g (range_with_len 0 i)) ++ f (g i) ∷ []
map_more f g i =
    ap (map f) (map-range_with_len_more g 0 i i (omega arith))
    ∙ map-append f (map g (range_with_len 0 i)) (g i ∷ [])

pub any_more : {A : Type 0} (p : A → Bool) (g : ℕ → A) (i : ℕ)
    → list_any p (map g (range_with_len 0 (i + 1))) ≡ (list_any p (map g (range_with_len 0 i)) || p (g i))
any_more p g i =
    ap (list_any p) (map-range_with_len_more g 0 i i (omega arith))
    ∙ list_any-append p (map g (range_with_len 0 i)) (g i ∷ [])
    ∙ ap (λ b. list_any p (map g (range_with_len 0 i)) || b) (or-false (p (g i)))

-- one item more from the front
pub map_take_more : {A B : Type 0} (f : A → B) (xs : List A) (i : ℕ) (x : A) → slice_get xs i ≡ Some x
    → map f (take (i + 1) xs) ≡ map f (take i xs) ++ f x ∷ []
map_take_more {A = A} {B = B} f xs i x is = ap (λ n. map f (take n xs)) (add-one i) ∙ at xs i is
  where
    at : (xs : List A) (i : ℕ) → slice_get xs i ≡ Some x
        → map f (take (suc i) xs) ≡ map f (take i xs) ++ f x ∷ []
    at [] i is = absurd (cc)
    at (y ∷ ys) zero is = let same : y ≡ x = cc in ap (λ z. f z ∷ []) same
    at (y ∷ ys) (suc i) is = ap (λ rest. f y ∷ rest) (at ys i is)

-- one item more from the end
pub drop_at : {A : Type 0} (xs : List A) (i : ℕ) (x : A) → slice_get xs i ≡ Some x
    → drop i xs ≡ x ∷ drop (i + 1) xs
drop_at {A = A} xs i x is = at xs i is ∙ ap (λ n. x ∷ drop n xs) (sym (add-one i))
  where
    at : (xs : List A) (i : ℕ) → slice_get xs i ≡ Some x → drop i xs ≡ x ∷ drop (suc i) xs
    at [] i is = absurd (cc)
    at (y ∷ ys) zero is = let same : y ≡ x = cc in ap (λ z. z ∷ ys) same
    at (y ∷ ys) (suc i) is = at ys i is

pub drop_all : {A : Type 0} (xs : List A) → drop (length xs) xs ≡ []
drop_all [] = refl
drop_all (x ∷ xs) = drop_all xs

pub take_all : {A : Type 0} (xs : List A) → take (length xs) xs ≡ xs
take_all [] = refl
take_all (x ∷ xs) = ap (λ rest. x ∷ rest) (take_all xs)
