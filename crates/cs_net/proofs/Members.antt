-- What stands in lists that are joined, mapped or chained.
use Rattle.std.proofs.Common.{◌≡◌, ℕ, zero, suc, ◌+◌, ◌<◌, ◌⊎◌, List, [], ◌∷◌, ◌++◌, length, map, Bool, true, false, ◌||◌, Option, Some, None, refl, sym, ap, subst, ◌∙◌, arith, inl, inr}
use Rattle.std.specs.Prelude.{filter_map, slice_get}
use Rattle.std.specs.List.{AllByRecursion, cons_option, enumerate_from, flat_map, list_any}

-- the value stands at a place of the list
abbrev pub Has : {A : Type 0} → List A → A → Type 0
Has xs x = (i : ℕ) × (slice_get xs i ≡ Some x)

-- a place within a list has an element
pub within_has : {A : Type 0} (xs : List A) (i : ℕ) → i < length xs → (x : A) × (slice_get xs i ≡ Some x)
within_has [] i below = absurd (omega arith)
within_has (x ∷ xs) zero below = (x, refl)
within_has (x ∷ xs) (suc i) below = within_has xs i (omega arith)

-- what holds of all holds of each
pub of_all : {A : Type 0} (P : A → Type 0) (xs : List A) (i : ℕ) (x : A) → AllByRecursion P xs
    → slice_get xs i ≡ Some x
    → P x
of_all P [] i x all stands = cc
of_all P (y ∷ xs) zero x (first, rest) stands = let same : y ≡ x = cc in subst P same first
of_all P (y ∷ xs) (suc i) x (first, rest) stands = of_all P xs i x rest stands

-- what holds of all of two lists holds of all of both together
pub append_all : {A : Type 0} (P : A → Type 0) (xs ys : List A) → AllByRecursion P xs → AllByRecursion P ys
    → AllByRecursion P (xs ++ ys)
append_all P [] ys left right = right
append_all P (x ∷ xs) ys left right = (left.0, append_all P xs ys left.1 right)

pub has_left : {A : Type 0} (xs ys : List A) (x : A) → Has xs x → Has (xs ++ ys) x
has_left [] ys x (i, stands) = cc
has_left (y ∷ xs) ys x (zero, stands) = (zero, stands)
has_left (y ∷ xs) ys x (suc i, stands) = let more = has_left xs ys x (i, stands) in (suc more.0, more.1)

pub has_right : {A : Type 0} (xs ys : List A) (x : A) → Has ys x → Has (xs ++ ys) x
has_right [] ys x has = has
has_right (y ∷ xs) ys x has = let more = has_right xs ys x has in (suc more.0, more.1)

pub has_either : {A : Type 0} (xs ys : List A) (x : A) → Has (xs ++ ys) x → Has xs x ⊎ Has ys x
has_either [] ys x has = inr has
has_either (y ∷ xs) ys x (zero, stands) = inl (zero, stands)
has_either (y ∷ xs) ys x (suc i, stands) = elim (has_either xs ys x (i, stands)) [
  | inl (k, left) ↦ inl (suc k, left)
  | inr right ↦ inr right
]

-- what stands in one of several lists stands in the chain
pub has_in_chain : {A B : Type 0} (f : A → List B) (xs : List A) (x : A) (y : B) → Has xs x → Has (f x) y
    → Has (flat_map f xs) y
has_in_chain f [] x y (i, stands) has = cc
has_in_chain f (z ∷ xs) x y (zero, stands) has =
    let same : z ≡ x = cc in
    let here : Has (f z) y = rw same has in
    has_left (f z) (flat_map f xs) y here
has_in_chain f (z ∷ xs) x y (suc i, stands) has =
    has_right (f z) (flat_map f xs) y (has_in_chain f xs x y (i, stands) has)

-- what stands in the chain stands in one of the lists
pub has_of_chain : {A B : Type 0} (f : A → List B) (xs : List A) (y : B) → Has (flat_map f xs) y
    → (x : A) × Has xs x × Has (f x) y
has_of_chain f [] y (i, stands) = cc
has_of_chain f (z ∷ xs) y has = elim (has_either (f z) (flat_map f xs) y has) [
  | inl here ↦ (z, (zero, refl), here)
  | inr later ↦
      let rest = has_of_chain f xs y later in
      (rest.0, (suc rest.1.0, rest.1.1), rest.2)
]

pub has_in_map : {A B : Type 0} (f : A → B) (xs : List A) (x : A) → Has xs x → Has (map f xs) (f x)
has_in_map f [] x (i, stands) = cc
has_in_map f (z ∷ xs) x (zero, stands) = (zero, let same : z ≡ x = cc in ap (λ z. Some (f z)) same)
has_in_map f (z ∷ xs) x (suc i, stands) = let more = has_in_map f xs x (i, stands) in (suc more.0, more.1)

pub has_of_map : {A B : Type 0} (f : A → B) (xs : List A) (y : B) → Has (map f xs) y
    → (x : A) × Has xs x × (y ≡ f x)
has_of_map f [] y (i, stands) = cc
has_of_map f (z ∷ xs) y (zero, stands) = (z, (zero, refl), cc)
has_of_map f (z ∷ xs) y (suc i, stands) =
    let rest = has_of_map f xs y (i, stands) in (rest.0, (suc rest.1.0, rest.1.1), rest.2)

-- what a choice keeps came from some element
pub has_of_choice : {A B : Type 0} (f : A → Option B) (xs : List A) (y : B) → Has (filter_map f xs) y
    → (x : A) × Has xs x × (f x ≡ Some y)
has_of_choice f [] y (i, stands) = cc
has_of_choice {A = A} {B = B} f (z ∷ xs) y has = here (f z) refl (λ later. has_of_choice f xs y later) has
  where
    here : (o : Option B) → f z ≡ o → (Has (filter_map f xs) y → (x : A) × Has xs x × (f x ≡ Some y))
        → Has (cons_option o (filter_map f xs)) y → (x : A) × Has (z ∷ xs) x × (f x ≡ Some y)
    here None is rest h = let found = rest h in (found.0, (suc found.1.0, found.1.1), found.2)
    here (Some b) is rest (zero, stands) = (z, (zero, refl), is ∙ stands)
    here (Some b) is rest (suc i, stands) =
        let found = rest (i, stands) in (found.0, (suc found.1.0, found.1.1), found.2)

-- each element with its place
pub numbered : {A : Type 0} (n : ℕ) (xs : List A) (p : ℕ × A) → Has (enumerate_from n xs) p
    → (i : ℕ) × (p.0 ≡ n + i) × (slice_get xs i ≡ Some p.1)
numbered n [] p (i, stands) = cc
numbered {A = A} n (x ∷ xs) p (zero, stands) =
    let same : (n, x) ≡ p = cc in
    (zero, sym (ap (λ (q : ℕ × A). q.0) same) ∙ omega arith, ap (λ (q : ℕ × A). Some q.1) same)
numbered n (x ∷ xs) p (suc i, stands) =
    let rest = numbered (n + 1) xs p (i, stands) in (suc rest.0, omega (arith, rest.1), rest.2)

-- an element that passes the test
pub any_of : {A : Type 0} (test : A → Bool) (xs : List A) (x : A) → Has xs x → test x ≡ true
    → list_any test xs ≡ true
any_of test [] x (i, stands) passes = cc
any_of test (z ∷ xs) x (zero, stands) passes =
    let same : z ≡ x = cc in ap (λ t. t || list_any test xs) (ap test same ∙ passes)
any_of test (z ∷ xs) x (suc i, stands) passes = either (test z) (any_of test xs x (i, stands) passes)
  where
    either : (t : Bool) → list_any test xs ≡ true → (t || list_any test xs) ≡ true
    either true h = refl
    either false h = h
