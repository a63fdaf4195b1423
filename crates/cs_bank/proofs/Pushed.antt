-- Lists to which items are pushed.
use Rattle.std.proofs.Common.{◌≡◌, ℕ, suc, ◌+◌, ◌<◌, List, [], ◌∷◌, ◌++◌, length, map, take, refl, sym, ap, ◌∙◌, arith, append_assoc}
use Rattle.std.specs.Prelude.{slice_get, Some}
use Rattle.std.specs.List.{range_with_len}
use Rattle.std.proofs.Math.Seq.{take-suc}
use Rattle.std.proofs.lemmas.List.{map-append}
use Rattle.std.proofs.lemmas.List.FromFn.{map-range_with_len_more}
use Rattle.std.proofs.lemmas.Option.{get_or_from_slice_get}

-- what is made of the next item comes behind what is made of those before
pub map_more : {A B : Type 0} (f : A → B) (xs : List A) (i : ℕ) (x : A) → i < length xs → slice_get xs i ≡ Some x
    → map f (take i xs) ++ f x ∷ [] ≡ map f (take (i + 1) xs)
map_more f xs i x below found =
    let next : i + 1 ≡ suc i = omega arith in
    sym (map-append f (take i xs) (x ∷ []))
    ∙ ap (λ y. map f (take i xs ++ y ∷ [])) (sym (get_or_from_slice_get xs i x x found))
    ∙ ap (map f) (sym (take-suc xs i x below))
    ∙ ap (λ n. map f (take n xs)) (sym next)

pub push_map : {A B : Type 0} (f : A → B) (xs : List A) (i : ℕ) (x : A) (old items items' : List B) → i < length xs
    → slice_get xs i ≡ Some x → items ≡ old ++ map f (take i xs) → items' ≡ items ++ f x ∷ []
    → items' ≡ old ++ map f (take (i + 1) xs)
push_map f xs i x old items items' below found so_far pushed =
    pushed
    ∙ ap (λ ys. ys ++ f x ∷ []) so_far
    ∙ append_assoc old (map f (take i xs)) (f x ∷ [])
    ∙ ap (λ ys. old ++ ys) (map_more f xs i x below found)

pub push_range : {B : Type 0} (f : ℕ → B) (a n j : ℕ) (old items items' : List B) → a + n ≡ j
    → items ≡ old ++ map f (range_with_len a n) → items' ≡ items ++ f j ∷ []
    → items' ≡ old ++ map f (range_with_len a (n + 1))
push_range f a n j old items items' place so_far pushed =
    pushed
    ∙ ap (λ ys. ys ++ f j ∷ []) so_far
    ∙ append_assoc old (map f (range_with_len a n)) (f j ∷ [])
    ∙ ap (λ ys. old ++ ys) (sym (map-range_with_len_more f a n j place))

pub map_twice : {A B C : Type 0} (f : B → C) (g : A → B) (xs : List A) → map (λ x. f (g x)) xs ≡ map f (map g xs)
map_twice f g [] = refl
map_twice f g (x ∷ xs) = ap (λ ys. f (g x) ∷ ys) (map_twice f g xs)
