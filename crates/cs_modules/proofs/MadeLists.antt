-- Lists that loops make of the cells of a module.
use Rattle.std.proofs.Common.{◌≡◌, ◌∙◌, List, [], ◌∷◌, ◌++◌, Option, Some, None, ap, append_assoc, filter_map, map, refl, sym}

-- what is made of the first of some elements is pushed
pub next_mapped : {A B : Type 0} (f : A → B) (x : A) (xs ys : List A) (old new whole : List B) → xs ≡ x ∷ ys →
    old ++ map f xs ≡ whole → new ≡ old ++ f x ∷ [] → new ++ map f ys ≡ whole
next_mapped f x xs ys old new whole first so_far pushed =
    ap (λ made. made ++ map f ys) pushed ∙ append_assoc old (f x ∷ []) (map f ys) ∙ sym (ap (λ zs. old ++ map f zs) first) ∙ so_far

-- what is made of the first of some elements is pushed, where something is
pub next_kept : {A B : Type 0} (f : A → Option B) (x : A) (made : B) (xs ys : List A) (old new whole : List B) → xs ≡ x ∷ ys →
    old ++ filter_map f xs ≡ whole → f x ≡ Some made → new ≡ old ++ made ∷ [] → new ++ filter_map f ys ≡ whole
next_kept f x made xs ys old new whole first so_far is pushed =
    ap (λ list. list ++ filter_map f ys) pushed ∙ append_assoc old (made ∷ []) (filter_map f ys)
    ∙ sym (ap (λ zs. old ++ filter_map f zs) first ∙ ap (λ list. old ++ list) (rw is refl)) ∙ so_far

pub next_passed : {A B : Type 0} (f : A → Option B) (x : A) (xs ys : List A) (old whole : List B) → xs ≡ x ∷ ys →
    old ++ filter_map f xs ≡ whole → f x ≡ None → old ++ filter_map f ys ≡ whole
next_passed f x xs ys old whole first so_far none =
    sym (ap (λ zs. old ++ filter_map f zs) first ∙ ap (λ list. old ++ list) (rw none refl)) ∙ so_far
