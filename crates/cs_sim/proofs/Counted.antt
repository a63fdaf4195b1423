-- Lists that loops make, place by place.
use Rattle.std.proofs.Common.{◌≡◌, ℕ, zero, suc, ◌+◌, ◌≤◌, List, [], ◌∷◌, ◌++◌, append_assoc, append-nil, map, length, fold, drop, Some, None, refl, sym, ap, ap₂, ◌∙◌, add-one, arith}
use Rattle.std.specs.Prelude.{flat_map, slice_get, Result, Ok, Err, OnOk}
use Rattle.std.specs.List.{zip}
use Rattle.cs_modules.specs.Pins.{count_from}

-- one place more
counted_more : (from count : ℕ) → count_from from (suc count) ≡ count_from from count ++ (from + count) ∷ []
counted_more from zero = ap (λ n. n ∷ []) (omega arith)
counted_more from (suc count) = ap (λ xs. from ∷ xs) (counted_more (from + 1) count ∙ ap (λ n. count_from (from + 1) count ++ n ∷ []) (omega arith))

map-append : {A B : Type 0} (f : A → B) (xs ys : List A) → map f (xs ++ ys) ≡ map f xs ++ map f ys
map-append f [] ys = refl
map-append f (x ∷ xs) ys = ap (λ rest. f x ∷ rest) (map-append f xs ys)

-- what is made for one place more is pushed
pub one_more_counted : {A : Type 0} (f : ℕ → A) (i : ℕ) (item : A) (old new : List A) → item ≡ f i → old ≡ map f (count_from 0 i) → new ≡ old ++ item ∷ [] → new ≡ map f (count_from 0 (i + 1))
one_more_counted f i item old new is so_far pushed =
    pushed ∙ ap (λ xs. xs ++ item ∷ []) so_far ∙ ap (λ x. map f (count_from 0 i) ++ x ∷ []) (is ∙ ap f (omega arith))
    ∙ sym (map-append f (count_from 0 i) ((0 + i) ∷ []))
    ∙ sym (ap (map f) (counted_more 0 i))
    ∙ ap (λ n. map f (count_from 0 n)) (sym (add-one i))

-- ---- pairs

-- the pairs from a place on begin with what stands there
pub pairs_at : {A B : Type 0} (i : ℕ) (xs : List A) (ys : List B) (x : A) (y : B) → slice_get xs i ≡ Some x →
    slice_get ys i ≡ Some y → drop i (zip xs ys) ≡ (x, y) ∷ drop (suc i) (zip xs ys)
pairs_at i [] ys x y first second = absurd (cc)
pairs_at i (a ∷ xs) [] x y first second = absurd (cc)
pairs_at zero (a ∷ xs) (b ∷ ys) x y first second =
    let one : a ≡ x = cc in
    let other : b ≡ y = cc in
    ap₂ (λ c d. (c, d) ∷ zip xs ys) one other
pairs_at (suc i) (a ∷ xs) (b ∷ ys) x y first second = pairs_at i xs ys x y first second

-- there are none where the second list has ended
pub pairs_past : {A B : Type 0} (i : ℕ) (xs : List A) (ys : List B) → slice_get ys i ≡ None → drop i (zip xs ys) ≡ []
pairs_past zero [] ys past = refl
pairs_past (suc i) [] ys past = refl
pairs_past zero (x ∷ xs) [] past = refl
pairs_past (suc i) (x ∷ xs) [] past = refl
pairs_past zero (x ∷ xs) (y ∷ ys) past = absurd (cc)
pairs_past (suc i) (x ∷ xs) (y ∷ ys) past = pairs_past i xs ys past

drop_more : {A : Type 0} (i : ℕ) (xs : List A) → drop i xs ≡ [] → drop (suc i) xs ≡ []
drop_more zero [] none = refl
drop_more (suc i) [] none = refl
drop_more zero (x ∷ xs) none = absurd (cc)
drop_more (suc i) (x ∷ xs) none = drop_more i xs none

pub pairs_all : {A B : Type 0} (i : ℕ) (xs : List A) (ys : List B) → length xs ≤ i → drop i (zip xs ys) ≡ []
pairs_all zero [] ys past = refl
pairs_all (suc i) [] ys past = refl
pairs_all zero (x ∷ xs) ys past = absurd (omega (arith, past))
pairs_all (suc i) (x ∷ xs) [] past = refl
pairs_all (suc i) (x ∷ xs) (y ∷ ys) past = pairs_all i xs ys (omega (arith, past))

-- ---- folds over pairs

module _ {A B C : Type 0} (f : C → A × B → C) (xs : List A) (ys : List B) where
  -- a turn of the fold, at a pair
  pub folded_more : (i : ℕ) (x : A) (y : B) (old new : C) → slice_get xs i ≡ Some x → slice_get ys i ≡ Some y → new ≡ f old (x, y) →
      fold f new (drop (i + 1) (zip xs ys)) ≡ fold f old (drop i (zip xs ys))
  folded_more i x y old new first second is =
      ap (λ c. fold f c (drop (i + 1) (zip xs ys))) is
      ∙ ap (λ n. fold f (f old (x, y)) (drop n (zip xs ys))) (add-one i)
      ∙ sym (ap (fold f old) (pairs_at i xs ys x y first second))

  -- past the second list's end
  pub folded_past : (i : ℕ) (old : C) → slice_get ys i ≡ None → fold f old (drop (i + 1) (zip xs ys)) ≡ fold f old (drop i (zip xs ys))
  folded_past i old past =
      ap (λ n. fold f old (drop n (zip xs ys))) (add-one i)
      ∙ ap (fold f old) (drop_more i (zip xs ys) (pairs_past i xs ys past))
      ∙ sym (ap (fold f old) (pairs_past i xs ys past))

  pub folded_all : (i : ℕ) (made : C) → length xs ≤ i → fold f made (drop i (zip xs ys)) ≡ made
  folded_all i made past = ap (fold f made) (pairs_all i xs ys past)

-- what follows from what a call promises of its value
pub on_ok : {T E P Q : Type 0} → (P → Q) → (r : Result T E) → OnOk r P → OnOk r Q
on_ok f (Ok v) h = f h
on_ok f (Err e) h = tt

-- ---- lists joined end to end, over pairs

module _ {A B C : Type 0} (f : A × B → List C) (xs : List A) (ys : List B) where
  pub joined_more : (i : ℕ) (x : A) (y : B) (old new : List C) → slice_get xs i ≡ Some x → slice_get ys i ≡ Some y → new ≡ old ++ f (x, y) →
      new ++ flat_map f (drop (i + 1) (zip xs ys)) ≡ old ++ flat_map f (drop i (zip xs ys))
  joined_more i x y old new first second is =
      ap (λ c. c ++ flat_map f (drop (i + 1) (zip xs ys))) is
      ∙ append_assoc old (f (x, y)) (flat_map f (drop (i + 1) (zip xs ys)))
      ∙ ap (λ n. old ++ (f (x, y) ++ flat_map f (drop n (zip xs ys)))) (add-one i)
      ∙ sym (ap (λ ps. old ++ flat_map f ps) (pairs_at i xs ys x y first second))

  pub joined_past : (i : ℕ) (old : List C) → slice_get ys i ≡ None → old ++ flat_map f (drop (i + 1) (zip xs ys)) ≡ old ++ flat_map f (drop i (zip xs ys))
  joined_past i old past =
      ap (λ n. old ++ flat_map f (drop n (zip xs ys))) (add-one i)
      ∙ ap (λ ps. old ++ flat_map f ps) (drop_more i (zip xs ys) (pairs_past i xs ys past))
      ∙ sym (ap (λ ps. old ++ flat_map f ps) (pairs_past i xs ys past))

  pub joined_all : (i : ℕ) (made : List C) → length xs ≤ i → made ++ flat_map f (drop i (zip xs ys)) ≡ made
  joined_all i made past = ap (λ ps. made ++ flat_map f ps) (pairs_all i xs ys past) ∙ append-nil made
