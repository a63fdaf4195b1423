-- What a choice keeps of numbered things: what each kept one came from, and how many are kept before it.
use Rattle.std.proofs.Common.{◌≡◌, ◌∙◌, ℕ, zero, suc, ◌+◌, ◌<◌, ◌≤◌, List, [], ◌∷◌, length, take, Option, Some, None, ap, arith, refl, sym}
use Rattle.std.specs.Prelude.{filter_map, slice_get}
use Rattle.std.specs.List.{cons_option, enumerate_from}
use Rattle.std.proofs.lemmas.Option.{none-some, same_Some}
use Rattle.cs_net.proofs.Members.{Has}

-- what is kept of things that are numbered from `from` on
abbrev pub kept_from : {A B : Type 0} → (ℕ × A → Option B) → ℕ → List A → List B
kept_from f from xs = filter_map f (enumerate_from from xs)

-- kept thing p came from the thing at this place, before which p are kept
record IsKeptFrom {A B : Type 0} (f : ℕ × A → Option B) (from : ℕ) (xs : List A) (p : ℕ) (y : B) : Type 0 where
  place : ℕ
  thing : A
  at : slice_get xs place ≡ Some thing
  is : f (from + place, thing) ≡ Some y
  before : length (kept_from f from (take place xs)) ≡ p

kept_came : {A B : Type 0} (f : ℕ × A → Option B) (from : ℕ) (xs : List A) (p : ℕ) (y : B)
    → slice_get (kept_from f from xs) p ≡ Some y → IsKeptFrom f from xs p y
kept_came f from [] p y found = absurd (none-some y found)
kept_came {A = A} {B = B} f from (x ∷ xs) p y found = by (f (from, x)) refl p found (kept_came f (from + 1) xs)
  where
    next : (n : ℕ) → from + suc n ≡ from + 1 + n
    next n = omega arith

    by : (o : Option B) → f (from, x) ≡ o → (p : ℕ)
        → slice_get (cons_option o (kept_from f (from + 1) xs)) p ≡ Some y
        → ((q : ℕ) (z : B) → slice_get (kept_from f (from + 1) xs) q ≡ Some z → IsKeptFrom f (from + 1) xs q z)
        → IsKeptFrom f from (x ∷ xs) p y
    by None is p found later =
        let rest = later p y found in record {
          place = suc rest.place;
          thing = rest.thing;
          at = rest.at;
          is = ap (λ n. f (n, rest.thing)) (next rest.place) ∙ rest.is;
          before = ap (λ o. length (cons_option o (kept_from f (from + 1) (take rest.place xs)))) is
              ∙ rest.before;
        }
    by (Some b) is zero found later =
        let same : from + 0 ≡ from = omega arith in record {
          place = 0;
          thing = x;
          at = refl;
          is = ap (λ n. f (n, x)) same ∙ is ∙ found;
          before = refl;
        }
    by (Some b) is (suc p) found later =
        let rest = later p y found in record {
          place = suc rest.place;
          thing = rest.thing;
          at = rest.at;
          is = ap (λ n. f (n, rest.thing)) (next rest.place) ∙ rest.is;
          before =
              ap (λ o. length (cons_option o (kept_from f (from + 1) (take rest.place xs)))) is
              ∙ ap suc rest.before;
        }

kept_more : {A B : Type 0} (f : ℕ × A → Option B) (from : ℕ) (xs : List A) (i j : ℕ) → i ≤ j
    → length (kept_from f from (take i xs)) ≤ length (kept_from f from (take j xs))
kept_more f from xs zero j few = omega arith
kept_more f from [] (suc i) j few = omega arith
kept_more f from (x ∷ xs) (suc i) zero few = absurd (omega (arith, few))
kept_more {B = B} f from (x ∷ xs) (suc i) (suc j) few =
    by (f (from, x)) (kept_more f (from + 1) xs i j (omega (arith, few)))
  where
    by : (o : Option B)
        → length (kept_from f (from + 1) (take i xs)) ≤ length (kept_from f (from + 1) (take j xs))
        → length (cons_option o (kept_from f (from + 1) (take i xs)))
        ≤ length (cons_option o (kept_from f (from + 1) (take j xs)))
    by None rest = rest
    by (Some b) rest = omega (arith, rest)

kept_few_from : {A B : Type 0} (f : ℕ × A → Option B) (from : ℕ) (xs : List A)
    → length (kept_from f from xs) ≤ length xs
kept_few_from f from [] = omega arith
kept_few_from {B = B} f from (x ∷ xs) = by (f (from, x)) (kept_few_from f (from + 1) xs)
  where
    by : (o : Option B) → length (kept_from f (from + 1) xs) ≤ length xs
        → length (cons_option o (kept_from f (from + 1) xs)) ≤ suc (length xs)
    by None rest = omega (arith, rest)
    by (Some b) rest = omega (arith, rest)

kept_there_from : {A B : Type 0} (f : ℕ × A → Option B) (from : ℕ) (xs : List A) (i : ℕ) (x : A) (y : B)
    → slice_get xs i ≡ Some x → f (from + i, x) ≡ Some y → Has (kept_from f from xs) y
kept_there_from f from [] i x y at is = absurd (none-some x at)
kept_there_from f from (z ∷ xs) zero x y at is =
    let same : from + 0 ≡ from = omega arith in
    let here : f (from, z) ≡ Some y = ap (λ a. f (from, a)) (same_Some z x at) ∙ ap (λ n. f (n, x)) (sym same)
    ∙ is in
    (0, ap (λ o. slice_get (cons_option o (kept_from f (from + 1) xs)) 0) here)
kept_there_from {B = B} f from (z ∷ xs) (suc i) x y at is =
    let next : from + suc i ≡ from + 1 + i = omega arith in
    by (f (from, z)) (kept_there_from f (from + 1) xs i x y at (ap (λ n. f (n, x)) (sym next) ∙ is))
  where
    by : (o : Option B) → Has (kept_from f (from + 1) xs) y → Has (cons_option o (kept_from f (from + 1) xs)) y
    by None rest = rest
    by (Some b) rest = (suc rest.0, rest.1)

kept_nothing_from : {A B : Type 0} (f : ℕ × A → Option B) (from : ℕ) (xs : List A)
    → ((i : ℕ) (x : A) → slice_get xs i ≡ Some x → f (from + i, x) ≡ None) → kept_from f from xs ≡ []
kept_nothing_from f from [] none = refl
kept_nothing_from f from (x ∷ xs) none =
    let same : from + 0 ≡ from = omega arith in
    ap (λ o. cons_option o (kept_from f (from + 1) xs)) (ap (λ n. f (n, x)) (sym same) ∙ none 0 x refl)
    ∙ kept_nothing_from f (from + 1) xs (λ i y at. later i y at)
  where
    later : (i : ℕ) (y : _) → slice_get xs i ≡ Some y → f (from + 1 + i, y) ≡ None
    later i y at = let next : from + suc i ≡ from + 1 + i = omega arith in ap (λ n. f (n, y)) (sym next)
        ∙ none (suc i) y at

-- ---- things that are numbered from 0 on

abbrev pub kept : {A B : Type 0} → (ℕ × A → Option B) → List A → List B
kept f xs = kept_from f 0 xs

pub record IsKept {A B : Type 0} (f : ℕ × A → Option B) (xs : List A) (p : ℕ) (y : B) : Type 0 where
  pub place : ℕ
  pub thing : A
  pub at : slice_get xs place ≡ Some thing
  pub is : f (place, thing) ≡ Some y
  pub before : length (kept f (take place xs)) ≡ p

from_none : (n : ℕ) → 0 + n ≡ n
from_none n = omega arith

pub is_kept : {A B : Type 0} (f : ℕ × A → Option B) (xs : List A) (p : ℕ) (y : B)
    → slice_get (kept f xs) p ≡ Some y
    → IsKept f xs p y
is_kept f xs p y found =
    let came = kept_came f 0 xs p y found in record {
      place = came.place;
      thing = came.thing;
      at = came.at;
      is = ap (λ n. f (n, came.thing)) (sym (from_none came.place)) ∙ came.is;
      before = came.before;
    }

-- no more are kept than there are
pub kept_few : {A B : Type 0} (f : ℕ × A → Option B) (xs : List A) → length (kept f xs) ≤ length xs
kept_few f xs = kept_few_from f 0 xs

-- what is kept is there
pub kept_there : {A B : Type 0} (f : ℕ × A → Option B) (xs : List A) (i : ℕ) (x : A) (y : B)
    → slice_get xs i ≡ Some x
    → f (i, x) ≡ Some y → Has (kept f xs) y
kept_there f xs i x y at is = kept_there_from f 0 xs i x y at (ap (λ n. f (n, x)) (from_none i) ∙ is)

-- where nothing is chosen nothing is kept
pub kept_nothing : {A B : Type 0} (f : ℕ × A → Option B) (xs : List A)
    → ((i : ℕ) (x : A) → slice_get xs i ≡ Some x → f (i, x) ≡ None) → kept f xs ≡ []
kept_nothing f xs none = kept_nothing_from f 0 xs (λ i x at. ap (λ n. f (n, x)) (from_none i) ∙ none i x at)

-- one thing is kept once
pub one_kept : {A B : Type 0} (f : ℕ × A → Option B) (xs : List A) (p q : ℕ) (y z : B) (one : IsKept f xs p y)
    (other : IsKept f xs q z) → one.place ≡ other.place → p ≡ q
one_kept f xs p q y z one other same = sym one.before ∙ ap (λ i. length (kept f (take i xs))) same ∙ other.before

less_by : (i j : ℕ) → (j ≤ i → ⊥) → i < j
less_by zero zero not_more = absurd (not_more (omega arith))
less_by zero (suc j) not_more = omega arith
less_by (suc i) zero not_more = absurd (not_more (omega arith))
less_by (suc i) (suc j) not_more =
    let rest = less_by i j (λ few. not_more (omega (arith, few))) in omega (arith, rest)

-- things are kept in their order
pub kept_in_order : {A B : Type 0} (f : ℕ × A → Option B) (xs : List A) (p q : ℕ) (y z : B)
    (one : IsKept f xs p y)
    (other : IsKept f xs q z) → p < q → one.place < other.place
kept_in_order f xs p q y z one other less =
    less_by one.place other.place (λ few.
    let more = kept_more f 0 xs other.place one.place few in
    let here = one.before in
    let there = other.before in
    omega (arith, more, here, there, less))

-- ---- numbered things

numbered_from : {A : Type 0} (from : ℕ) (xs : List A) (i : ℕ) (e : ℕ × A)
    → slice_get (enumerate_from from xs) i ≡ Some e
    → (x : A) × (slice_get xs i ≡ Some x) × ((from + i, x) ≡ e)
numbered_from from [] i e at = absurd (none-some e at)
numbered_from from (x ∷ xs) zero e at =
    let same : from + 0 ≡ from = omega arith in (x, refl, ap (λ n. (n, x)) same ∙ same_Some (from, x) e at)
numbered_from from (x ∷ xs) (suc i) e at =
    let rest = numbered_from (from + 1) xs i e at in
    let next : from + suc i ≡ from + 1 + i = omega arith in
    (rest.0, rest.1, ap (λ n. (n, rest.0)) next ∙ rest.2)

pub numbered : {A : Type 0} (xs : List A) (i : ℕ) (e : ℕ × A) → slice_get (enumerate_from 0 xs) i ≡ Some e
    → (x : A) × (slice_get xs i ≡ Some x) × ((i, x) ≡ e)
numbered xs i e at =
    let found = numbered_from 0 xs i e at in
    (found.0, found.1, ap (λ n. (n, found.0)) (sym (from_none i)) ∙ found.2)

there_from : {A : Type 0} (from : ℕ) (xs : List A) (i : ℕ) (x : A) → slice_get xs i ≡ Some x
    → Has (enumerate_from from xs) (from + i, x)
there_from from [] i x at = absurd (none-some x at)
there_from from (z ∷ xs) zero x at =
    let same : from ≡ from + 0 = omega arith in (
      0,
      ap (λ n. Some (n, z)) same ∙ ap (λ y. Some (from + 0, y)) (same_Some z x at),
    )
there_from from (z ∷ xs) (suc i) x at =
    let rest = there_from (from + 1) xs i x at in
    let next : from + 1 + i ≡ from + suc i = omega arith in
    (suc rest.0, rest.1 ∙ ap (λ n. Some (n, x)) next)

pub entry_there : {A : Type 0} (xs : List A) (i : ℕ) (x : A) → slice_get xs i ≡ Some x
    → Has (enumerate_from 0 xs) (i, x)
entry_there xs i x at = let found = there_from 0 xs i x at in (
  found.0,
  found.1 ∙ ap (λ n. Some (n, x)) (from_none i),
)
