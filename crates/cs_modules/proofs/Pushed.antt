-- Lists that loops make by places counted up.
use Rattle.std.proofs.Common.{◌≡◌, ℕ, zero, suc, ◌+◌, List, [], ◌∷◌, ◌++◌, map, refl, sym, ap, ◌∙◌, add-one, arith}
use Rattle.cs_modules.specs.Pins.{count_from}

-- one place more
counted_more : (from count : ℕ) → count_from from (suc count) ≡ count_from from count ++ (from + count) ∷ []
counted_more from zero = ap (λ n. n ∷ []) (omega arith)
counted_more from (suc count) = ap (λ xs. from ∷ xs) (counted_more (from + 1) count ∙ ap (λ n. count_from (from + 1) count ++ n ∷ []) (omega arith))

map-append : {A B : Type 0} (f : A → B) (xs ys : List A) → map f (xs ++ ys) ≡ map f xs ++ map f ys
map-append f [] ys = refl
map-append f (x ∷ xs) ys = ap (λ rest. f x ∷ rest) (map-append f xs ys)

-- what is made for one place more is pushed
pub one_more_counted : {A : Type 0} (f : ℕ → A) (i : ℕ) (item : A) (old new : List A) → item ≡ f i → old ≡ map f (count_from 0 i) → new ≡ old ++ item ∷ [] → new ≡ map f (count_from 0 (i + 1))
one_more_counted f i item old new is so_far pushed =
    pushed ∙ ap (λ xs. xs ++ item ∷ []) so_far ∙ ap (λ x. map f (count_from 0 i) ++ x ∷ []) (is ∙ ap f (omega arith))
    ∙ sym (map-append f (count_from 0 i) ((0 + i) ∷ []))
    ∙ sym (ap (map f) (counted_more 0 i))
    ∙ ap (λ n. map f (count_from 0 n)) (sym (add-one i))
