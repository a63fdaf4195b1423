-- What a list contains, and what a search in it tells.
use Rattle.std.proofs.Common.{◌≡◌, ℕ, ◌+◌, ◌<◌, map, get_or, Bool, true, false, ◌||◌, ◌⊎◌, inl, inr, List, [], ◌∷◌, length, Option, Some, None, Result, Ok, Err, OnOk, IfOk, IfSome, IfErr, refl, sym, arith, subst, ap, ◌∙◌}
use Rattle.std.specs.List.{Contains, list_any, slice_get}
use Rattle.std.proofs.lemmas.Bool.{cases_lt}
use Rattle.std.proofs.lemmas.Option.{slice_get_within, get_or_from_slice_get, slice_get-get_or, slice_get_read}
use Rattle.std.proofs.lemmas.List.Elements.{Contains-append_right, Contains-append_cases, Contains-push_cases}

pub not_in_empty : {X : Type 0} (x : X) → Contains [] x → ⊥
not_in_empty x (k, within, is) = omega arith

pub contains_here : {X : Type 0} (x : X) (xs : List X) → Contains (x ∷ xs) x
contains_here x xs = (0, omega arith, refl)

pub contains_there : {X : Type 0} (y x : X) (xs : List X) → Contains xs x → Contains (y ∷ xs) x
contains_there y x xs has = Contains-append_right (y ∷ []) xs x has

pub contains_cases : {X : Type 0} (y x : X) (xs : List X) → Contains (y ∷ xs) x → (y ≡ x) ⊎ Contains xs x
contains_cases y x xs has =
    elim (Contains-append_cases (y ∷ []) xs x has) [
      | inl one ↦ elim (Contains-push_cases [] y x one) [
        | inl none ↦ absurd (not_in_empty x none)
        | inr is ↦ inl is
      ]
      | inr rest ↦ inr rest
    ]

pub any_false : {X : Type 0} (test : X → Bool) (xs : List X) → list_any test xs ≡ false → (x : X) → Contains xs x → test x ≡ false
any_false test [] none x has = absurd (not_in_empty x has)
any_false test (y ∷ ys) none x has =
    let cases : (b : Bool) → test y ≡ b → (b || list_any test ys) ≡ false → test x ≡ false =
    λ b. elim b as (λ b. test y ≡ b → (b || list_any test ys) ≡ false → test x ≡ false) [
      | true ↦ λ is no. cc
      | false ↦ λ is no. elim (contains_cases y x ys has) [
        | inl here ↦ ap test (sym here) ∙ is
        | inr there ↦ any_false test ys no x there
      ]
    ] in
    cases (test y) refl none

pub any_true : {X : Type 0} (test : X → Bool) (xs : List X) → list_any test xs ≡ true → (x : X) × Contains xs x × (test x ≡ true)
any_true test [] holds = cc
any_true test (y ∷ ys) holds =
    let cases : (b : Bool) → test y ≡ b → (b || list_any test ys) ≡ true → (x : _) × Contains (y ∷ ys) x × (test x ≡ true) =
    λ b. elim b as (λ b. test y ≡ b → (b || list_any test ys) ≡ true → (x : _) × Contains (y ∷ ys) x × (test x ≡ true)) [
      | true ↦ λ is found. (y, contains_here y ys, is)
      | false ↦ λ is found.
          let rest = any_true test ys found in
          (rest.0, contains_there y rest.0 ys rest.1, rest.2)
    ] in
    cases (test y) refl holds

pub contains_at : {X : Type 0} (xs : List X) (i : ℕ) (x : X) → slice_get xs i ≡ Some x → Contains xs x
contains_at xs i x found = (i, slice_get_within xs i x found, get_or_from_slice_get xs i x x found)

-- what was read at a place stands there
pub read_at : {X : Type 0} (xs ys : List X) (i : ℕ) (x : X) → xs ≡ ys → i < length xs → x ≡ get_or xs i x → slice_get ys i ≡ Some x
read_at xs ys i x same within is =
    subst (λ l. slice_get l i ≡ Some x) same (slice_get_read xs (length xs) i x refl within is)

pub at_contains : {X : Type 0} (xs : List X) (x : X) → Contains xs x → (i : ℕ) × (slice_get xs i ≡ Some x)
at_contains xs x (i, within, is) = (i, slice_get-get_or xs i x within ∙ ap Some is)

pub contains_map : {X Y : Type 0} (f : X → Y) (xs : List X) (x : X) → Contains xs x → Contains (map f xs) (f x)
contains_map f [] x has = absurd (not_in_empty x has)
contains_map f (y ∷ ys) x has = elim (contains_cases y x ys has) [
  | inl here ↦ subst (λ z. Contains (f y ∷ map f ys) (f z)) here (contains_here (f y) (map f ys))
  | inr there ↦ contains_there (f y) (f x) (map f ys) (contains_map f ys x there)
]

pub mapped : {X Y : Type 0} (P : Y → Type 0) (f : X → Y) (xs : List X) → ((x : X) → Contains xs x → P (f x)) → (y : Y) → Contains (map f xs) y → P y
mapped P f [] each y has = absurd (not_in_empty y has)
mapped P f (x ∷ xs) each y has = elim (contains_cases (f x) y (map f xs) has) [
  | inl here ↦ subst P here (each x (contains_here x xs))
  | inr there ↦ mapped P f xs (λ z among. each z (contains_there x z xs among)) y there
]

-- one place more
pub places_more : {X : Type 0} (P : ℕ → X → Type 0) (xs : List X) (i : ℕ) (x : X) → x ≡ get_or xs i x → i < length xs
    → ((k : ℕ) (y : X) → k < i → slice_get xs k ≡ Some y → P k y) → P i x
    → (k : ℕ) (y : X) → k < i + 1 → slice_get xs k ≡ Some y → P k y
places_more P xs i x is within before here k y below found =
    let here' : slice_get xs i ≡ Some x = slice_get_read xs (length xs) i x refl within is in
    elim (cases_lt k i) [
      | inl lt ↦ before k y lt found
      | inr le ↦
          let same : i ≡ k = omega arith in
          let same_item : x ≡ y = let found' = subst (λ j. slice_get xs j ≡ Some y) (sym same) found in cc in
          subst (λ j. P j y) same (subst (λ z. P i z) same_item here)
    ]

-- a fact of a result follows from another
pub on_ok : {T E : Type 0} (r : Result T E) (P Q : Type 0) → (P → Q) → OnOk r P → OnOk r Q
on_ok (Ok _) P Q step holds = step holds
on_ok (Err _) P Q step holds = tt

pub if_err : {T E : Type 0} (r : Result T E) (P Q : E → Type 0) → ((e : E) → P e → Q e) → IfErr r P → IfErr r Q
if_err (Ok _) P Q step holds = tt
if_err (Err e) P Q step holds = step e holds

pub if_ok_some : {T E : Type 0} (r : Result (Option T) E) (P Q : T → Type 0) → ((x : T) → P x → Q x)
    → IfOk r (λ found. IfSome found P) → IfOk r (λ found. IfSome found Q)
if_ok_some (Ok None) P Q step holds = tt
if_ok_some (Ok (Some x)) P Q step holds = step x holds
if_ok_some (Err _) P Q step holds = tt
