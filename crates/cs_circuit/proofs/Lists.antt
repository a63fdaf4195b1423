-- Lists: what holds of all things in joined and chained lists, and numbers that stand once.
use Rattle.std.proofs.Common.{◌≡◌, ℕ, zero, suc, ◌+◌, ◌<◌, ◌≤◌, List, [], ◌∷◌, ◌++◌, map, Bool, true, false, ◌||◌, cond, Some, None, refl, sym, ap, ap₂, subst, ◌∙◌, arith, append_assoc, eqb-true, eq-eqb}
use Rattle.std.specs.Prelude.{filter, find, flat_map, replicate, slice_get, sum_by, ◌==◌}
use Rattle.std.specs.List.{AllByRecursion, enumerate_from, list_all, list_any}
use Rattle.std.specs.List.Sorted.{IsPermutation}
use Rattle.std.proofs.lemmas.List.Sums.{sum_by-cons}
use Rattle.std.proofs.lemmas.List.Sorted.{sum_by-IsPermutation}
use Rattle.cs_conditions.specs.Conditions.{duplicates}
use Rattle.cs_net.proofs.Members.{Has, append_all, has_of_chain}
use Rattle.cs_net.proofs.Occurrences.{count_of, count_of-append}

-- ---- what holds of all

pub split_all : {A : Type 0} (P : A → Type 0) (xs ys : List A) → AllByRecursion P (xs ++ ys)
    → AllByRecursion P xs × AllByRecursion P ys
split_all P [] ys h = (tt, h)
split_all P (x ∷ xs) ys h = let rest = split_all P xs ys h.1 in ((h.0, rest.0), rest.1)

pub everywhere : {A : Type 0} (P : A → Type 0) → ((x : A) → P x) → (xs : List A) → AllByRecursion P xs
everywhere P each [] = tt
everywhere P each (x ∷ xs) = (each x, everywhere P each xs)

pub all_step : {A : Type 0} (P Q : A → Type 0) → ((x : A) → P x → Q x) → (xs : List A) → AllByRecursion P xs
    → AllByRecursion Q xs
all_step P Q step [] h = tt
all_step P Q step (x ∷ xs) h = (step x h.0, all_step P Q step xs h.1)

pub all_mapped : {A B : Type 0} (P : B → Type 0) (f : A → B) (xs : List A) → AllByRecursion (λ x. P (f x)) xs
    → AllByRecursion P (map f xs)
all_mapped P f [] h = tt
all_mapped P f (x ∷ xs) h = (h.0, all_mapped P f xs h.1)

pub all_flat : {A B : Type 0} (P : B → Type 0) (f : A → List B) (xs : List A)
    → AllByRecursion (λ x. AllByRecursion P (f x)) xs → AllByRecursion P (flat_map f xs)
all_flat P f [] h = tt
all_flat P f (x ∷ xs) h = append_all P (f x) (flat_map f xs) h.0 (all_flat P f xs h.1)

pub all_same : {A : Type 0} (P : A → Type 0) (count : ℕ) (x : A) → P x → AllByRecursion P (replicate count x)
all_same P zero x h = tt
all_same P (suc count) x h = (h, all_same P count x h)

-- what holds of each thing that stands in the list
pub all_from_has : {A : Type 0} (P : A → Type 0) (ys : List A)
    → ((i : ℕ) (y : A) → slice_get ys i ≡ Some y → P y)
    → AllByRecursion P ys
all_from_has P [] each = tt
all_from_has P (y ∷ ys) each = (each 0 y refl, all_from_has P ys (λ i z stands. each (suc i) z stands))

-- the same of images of numbered things
pub all_listed : {A B : Type 0} (P : B → Type 0) (f : ℕ → A → B) (from : ℕ) (xs : List A)
    → ((i : ℕ) (x : A) → slice_get xs i ≡ Some x → P (f (from + i) x))
    → AllByRecursion P (map (λ e. f e.0 e.1) (enumerate_from from xs))
all_listed P f from [] each = tt
all_listed P f from (x ∷ xs) each = (
  (let start : from + 0 ≡ from = omega arith in subst (λ n. P (f n x)) start (each 0 x refl)),
  all_listed P f (from + 1) xs
      (λ i y stands. let next : from + suc i ≡ from + 1 + i = omega arith in subst (λ n. P (f n y)) next
      (each (suc i) y stands)),
)

-- ---- tests

pub none_found : {A : Type 0} (test : A → Bool) (xs : List A) → AllByRecursion (λ x. test x ≡ false) xs
    → find test xs ≡ None
none_found test [] h = refl
none_found test (x ∷ xs) h = rw h.0 (none_found test xs h.1)

pub none_any : {A : Type 0} (test : A → Bool) (xs : List A) → AllByRecursion (λ x. test x ≡ false) xs
    → list_any test xs ≡ false
none_any test [] h = refl
none_any test (x ∷ xs) h = rw h.0 (none_any test xs h.1)

pub none_kept : {A : Type 0} (test : A → Bool) (xs : List A) → AllByRecursion (λ x. test x ≡ false) xs
    → filter test xs ≡ []
none_kept test [] h = refl
none_kept test (x ∷ xs) h = rw h.0 (none_kept test xs h.1)

pub all_kept : {A : Type 0} (test : A → Bool) (xs : List A) → AllByRecursion (λ x. test x ≡ true) xs
    → filter test xs ≡ xs
all_kept test [] h = refl
all_kept test (x ∷ xs) h = rw h.0 (ap (λ rest. x ∷ rest) (all_kept test xs h.1))

pub all_pass : {A : Type 0} (test : A → Bool) (xs : List A) → AllByRecursion (λ x. test x ≡ true) xs
    → list_all test xs ≡ true
all_pass test [] h = refl
all_pass test (x ∷ xs) h = rw h.0 (all_pass test xs h.1)

-- a thing that passes stands in the list
pub any_has : {A : Type 0} (test : A → Bool) (xs : List A) → list_any test xs ≡ true → (x : A) × Has xs x ×
    (test x ≡ true)
any_has test [] h = absurd (cc)
any_has {A} test (x ∷ xs) h = by_test (test x) refl (any_has test xs)
  where
    by_test : (t : Bool) → test x ≡ t → (list_any test xs ≡ true → (y : A) × Has xs y × (test y ≡ true))
        → (y : A) × Has (x ∷ xs) y × (test y ≡ true)
    by_test true is later = (x, (0, refl), is)
    by_test false is later =
        let more = later (sym (ap (λ t. t || list_any test xs) is) ∙ h) in
        (more.0, (suc more.1.0, more.1.1), more.2)

-- ---- chains

pub flat-append : {A B : Type 0} (f : A → List B) (xs ys : List A) → flat_map f (xs ++ ys) ≡ flat_map f xs
    ++ flat_map f ys
flat-append f [] ys = refl
flat-append f (x ∷ xs) ys =
    ap (λ rest. f x ++ rest) (flat-append f xs ys) ∙ sym (append_assoc (f x) (flat_map f xs) (flat_map f ys))

pub filter-append : {A : Type 0} (p : A → Bool) (xs ys : List A) → filter p (xs ++ ys) ≡ filter p xs
    ++ filter p ys
filter-append p [] ys = refl
filter-append p (x ∷ xs) ys = elim (p x) as
    (λ t. cond t (x ∷ filter p (xs ++ ys)) (filter p (xs ++ ys)) ≡ cond t (x ∷ filter p xs) (filter p xs)
    ++ filter p ys) [
      | true ↦ ap (λ rest. x ∷ rest) (filter-append p xs ys)
      | false ↦ filter-append p xs ys
    ]

pub filter_flat : {A B : Type 0} (p : B → Bool) (f : A → List B) (xs : List A)
    → filter p (flat_map f xs) ≡ flat_map (λ x. filter p (f x)) xs
filter_flat p f [] = refl
filter_flat p f (x ∷ xs) =
    filter-append p (f x) (flat_map f xs) ∙ ap (λ rest. filter p (f x) ++ rest) (filter_flat p f xs)

pub flat_alike : {A B : Type 0} (f g : A → List B) (xs : List A) → AllByRecursion (λ x. f x ≡ g x) xs
    → flat_map f xs ≡ flat_map g xs
flat_alike f g [] h = refl
flat_alike f g (x ∷ xs) h = ap₂ (λ ys zs. ys ++ zs) h.0 (flat_alike f g xs h.1)

pub flat_none : {A B : Type 0} (f : A → List B) (xs : List A) → AllByRecursion (λ x. f x ≡ []) xs
    → flat_map f xs ≡ []
flat_none f [] h = refl
flat_none f (x ∷ xs) h = ap₂ (λ ys zs. ys ++ zs) h.0 (flat_none f xs h.1)

pub flat_images : {A B C : Type 0} (f : B → List C) (g : A → B) (xs : List A)
    → flat_map f (map g xs) ≡ flat_map (λ x. f (g x)) xs
flat_images f g [] = refl
flat_images f g (x ∷ xs) = ap (λ rest. f (g x) ++ rest) (flat_images f g xs)

pub flat_single : {A B : Type 0} (f : A → B) (xs : List A) → flat_map (λ x. f x ∷ []) xs ≡ map f xs
flat_single f [] = refl
flat_single f (x ∷ xs) = ap (λ rest. f x ∷ rest) (flat_single f xs)

-- ---- numbers that stand once

-- how often a number stands
abbrev pub times : ℕ → List ℕ → ℕ
times b numbers = count_of (λ a. a == b) numbers

one_here : (a b : ℕ) (numbers : List ℕ) → (a == b) ≡ true → times b (a ∷ numbers) ≡ 1 + times b numbers
one_here a b numbers is = rw is refl

none_here : (a b : ℕ) (numbers : List ℕ) → (a == b) ≡ false → times b (a ∷ numbers) ≡ 0 + times b numbers
none_here a b numbers is = rw is refl

none_times : (b : ℕ) (numbers : List ℕ) → times b numbers ≡ 0 → list_any (λ a. a == b) numbers ≡ false
none_times b [] h = refl
none_times b (a ∷ numbers) h = by_test (a == b) refl (none_times b numbers)
  where
    by_test : (t : Bool) → (a == b) ≡ t → (times b numbers ≡ 0 → list_any (λ n. n == b) numbers ≡ false)
        → list_any (λ n. n == b) (a ∷ numbers) ≡ false
    by_test true is later = let one = one_here a b numbers is in absurd (omega arith)
    by_test false is later =
        let same = none_here a b numbers is in
        let rest : times b numbers ≡ 0 = omega arith in rw is (later rest)

fewer_later : (b a : ℕ) (numbers : List ℕ) → times b numbers ≤ times b (a ∷ numbers)
fewer_later b a numbers = by_test (a == b) refl
  where
    by_test : (t : Bool) → (a == b) ≡ t → times b numbers ≤ times b (a ∷ numbers)
    by_test true is = let one = one_here a b numbers is in omega arith
    by_test false is = let same = none_here a b numbers is in omega arith

pub once_from_times : (numbers : List ℕ) → ((b : ℕ) → times b numbers ≤ 1) → duplicates numbers ≡ []
once_from_times [] few = refl
once_from_times (a ∷ numbers) few =
    let here = one_here a a numbers (eq-eqb a a refl) in
    let most = few a in
    let rest : times a numbers ≡ 0 = omega arith in
    rw (none_times a numbers rest)
    (once_from_times numbers (λ b. let less = fewer_later b a numbers in let whole = few b in omega arith))

any_times : (b : ℕ) (numbers : List ℕ) → list_any (λ a. a == b) numbers ≡ false → times b numbers ≡ 0
any_times b [] h = refl
any_times b (a ∷ numbers) h = by_test (a == b) refl (any_times b numbers)
  where
    by_test : (t : Bool) → (a == b) ≡ t → (list_any (λ n. n == b) numbers ≡ false → times b numbers ≡ 0)
        → times b (a ∷ numbers) ≡ 0
    by_test true is later = let both : true ≡ false = sym
        (ap (λ t. t || list_any (λ n. n == b) numbers) is) ∙ h in absurd (cc)
    by_test false is later =
        let same = none_here a b numbers is in
        let rest = later (sym (ap (λ t. t || list_any (λ n. n == b) numbers) is) ∙ h) in omega arith

pub times_from_once : (numbers : List ℕ) (b : ℕ) → duplicates numbers ≡ [] → times b numbers ≤ 1
times_from_once [] b h = omega arith
times_from_once (a ∷ numbers) b h =
    elim (list_any (λ n. n == a) numbers) as
    (λ t. list_any (λ n. n == a) numbers ≡ t → cond t (a ∷ duplicates numbers)
    (duplicates numbers) ≡ [] → times b (a ∷ numbers) ≤ 1) [
      | true ↦ λ is twice. absurd (cc)
      | false ↦ λ is once. at_most is (times_from_once numbers b once) (a == b) refl
    ] refl h
  where
    at_most : list_any (λ n. n == a) numbers ≡ false → times b numbers ≤ 1 → (t : Bool) → (a == b) ≡ t
        → times b (a ∷ numbers) ≤ 1
    at_most is rest true here =
        let equal : a ≡ b = eqb-true a b here in
        let none : times b numbers ≡ 0 = any_times b numbers
        (sym (ap (λ n. list_any (λ m. m == n) numbers) equal) ∙ is) in
        let one = one_here a b numbers here in omega arith
    at_most is rest false here = let same = none_here a b numbers here in omega arith

-- the numbers of all things, in any order of the things
times_of_chain : {A : Type 0} (b : ℕ) (f : A → List ℕ) (xs : List A) → times b (flat_map f xs) ≡ sum_by
    (λ x. times b (f x)) xs
times_of_chain b f [] = refl
times_of_chain b f (x ∷ xs) =
    count_of-append (λ a. a == b) (f x) (flat_map f xs)
    ∙ ap (λ n. times b (f x) + n) (times_of_chain b f xs) ∙ sym (sum_by-cons (λ y. times b (f y)) x xs)

pub once_permuted : {A : Type 0} (f : A → List ℕ) (front : List ℕ) (xs ys : List A) → IsPermutation xs ys
    → duplicates (front ++ flat_map f xs) ≡ [] → duplicates (front ++ flat_map f ys) ≡ []
once_permuted f front xs ys same once =
    once_from_times (front ++ flat_map f ys)
    (λ b.
    let before = times_from_once (front ++ flat_map f xs) b once in
    let first = count_of-append (λ a. a == b) front (flat_map f xs) in
    let second = count_of-append (λ a. a == b) front (flat_map f ys) in
    let equal : times b (flat_map f ys) ≡ times b (flat_map f xs) =
    times_of_chain b f ys ∙ sum_by-IsPermutation (λ x. times b (f x)) xs ys same ∙ sym
    (times_of_chain b f xs) in
    omega arith)

-- two lists with no number in common
not_again : (a : ℕ) (ys : List ℕ) → (Has ys a → ⊥) → list_any (λ n. n == a) ys ≡ false
not_again a ys absent = none_any (λ n. n == a) ys
    (all_from_has (λ n. (n == a) ≡ false) ys (λ i y stands. by_test i y stands (y == a) refl))
  where
    by_test : (i y : ℕ) → slice_get ys i ≡ Some y → (t : Bool) → (y == a) ≡ t → (y == a) ≡ false
    by_test i y stands true is = absurd (absent (i, stands ∙ ap Some (eqb-true y a is)))
    by_test i y stands false is = is

list_any-append : {A : Type 0} (test : A → Bool) (xs ys : List A) → list_any test (xs ++ ys) ≡
    (list_any test xs || list_any test ys)
list_any-append test [] ys = refl
list_any-append test (x ∷ xs) ys = elim (test x) as
    (λ t. (t || list_any test (xs ++ ys)) ≡
    ((t || list_any test xs) || list_any test ys)) [ true ↦ refl | false ↦ list_any-append test xs ys ]

pub once_joined : (xs ys : List ℕ) → duplicates xs ≡ [] → duplicates ys ≡ []
    → ((b : ℕ) → Has xs b → Has ys b → ⊥)
    → duplicates (xs ++ ys) ≡ []
once_joined [] ys once other apart = other
once_joined (x ∷ xs) ys once other apart =
    elim (list_any (λ n. n == x) xs) as
    (λ t. list_any (λ n. n == x) xs ≡ t → cond t (x ∷ duplicates xs) (duplicates xs) ≡ [] → duplicates
    (x ∷ (xs ++ ys)) ≡ []) [
      | true ↦ λ is twice. absurd (cc)
      | false ↦ λ is single.
          rw (list_any-append (λ n. n == x) xs ys ∙ ap₂ (λ s t. s || t) is
          (not_again x ys (λ has. apart x (0, refl) has)))
          (once_joined xs ys single other (λ b has there. apart b (suc has.0, has.1) there))
    ] refl once

-- chained lists of which no two have a number in common
pub once_chained : {A : Type 0} (f : A → List ℕ) (xs : List A)
    → ((i : ℕ) (x : A) → slice_get xs i ≡ Some x → duplicates (f x) ≡ [])
    → ((i j b : ℕ) (x y : A) → i < j → slice_get xs i ≡ Some x → slice_get xs j ≡ Some y → Has (f x) b
    → Has (f y) b → ⊥)
    → duplicates (flat_map f xs) ≡ []
once_chained f [] each apart = refl
once_chained f (x ∷ xs) each apart =
    once_joined (f x) (flat_map f xs) (each 0 x refl)
    (once_chained f xs (λ i y stands. each (suc i) y stands)
    (λ i j b y z less first second. apart (suc i) (suc j) b y z (omega arith) first second))
    (λ b has there.
    let from = has_of_chain f xs b there in
    apart 0 (suc from.1.0) b x from.0 (omega arith) refl from.1.1 has from.2)
