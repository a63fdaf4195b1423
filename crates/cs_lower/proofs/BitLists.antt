-- Lists of numbers: what stands where.
use Rattle.std.specs.Prelude.{nat_eq, ◌==◌, ◌||◌, ◌⊎◌, slice_get}
use Rattle.std.proofs.Common.{◌≡◌, ℕ, zero, suc, ◌+◌, ◌-◌, ◌<◌, ◌≤◌, Bool, true, false, List, [], ◌∷◌, ◌++◌, drop, get_or, position, take, length, Some, refl, sym, ap, ◌∙◌, arith, inl, inr}
use Rattle.std.specs.List.{list_any}
use Rattle.std.proofs.lemmas.Bool.{cases_Bool, eq-eqb, eqb-true, or_left, or_right}
use Rattle.std.proofs.lemmas.List.Quantifiers.{position-Some}
use Rattle.std.proofs.lemmas.Option.{get_or_from_slice_get, none-some, same_Some}
use Rattle.cs_net.proofs.Members.{within_has}

-- ---- two lists in a row, and a list so far

any_append : (test : ℕ → Bool) (xs ys : List ℕ) → list_any test (xs ++ ys) ≡ (list_any test xs || list_any test ys)
any_append test [] ys = refl
any_append test (x ∷ xs) ys = by (test x) (any_append test xs ys)
  where
    by : (here : Bool) → list_any test (xs ++ ys) ≡ (list_any test xs || list_any test ys)
        → (here || list_any test (xs ++ ys)) ≡ ((here || list_any test xs) || list_any test ys)
    by true rest = refl
    by false rest = rest

pub any_in : (q : ℕ) (xs ys : List ℕ) → list_any (nat_eq q) (xs ++ ys) ≡ true
    → (list_any (nat_eq q) xs ≡ true) ⊎ (list_any (nat_eq q) ys ≡ true)
any_in q xs ys is = by (list_any (nat_eq q) xs) refl (sym (any_append (nat_eq q) xs ys) ∙ is)
  where
    by : (first : Bool) → list_any (nat_eq q) xs ≡ first → (first || list_any (nat_eq q) ys) ≡ true
        → (list_any (nat_eq q) xs ≡ true) ⊎ (list_any (nat_eq q) ys ≡ true)
    by true here is = inl here
    by false here is = inr is

pub take_next : (xs : List ℕ) (i b : ℕ) → slice_get xs i ≡ Some b → take (i + 1) xs ≡ take i xs ++ b ∷ []
take_next xs i b at = let one : i + 1 ≡ suc i = omega arith in ap (λ n. take n xs) one ∙ by xs i at
  where
    by : (xs : List ℕ) (i : ℕ) → slice_get xs i ≡ Some b → take (suc i) xs ≡ take i xs ++ b ∷ []
    by [] i at = absurd (none-some b at)
    by (x ∷ xs) zero at = ap (λ y. y ∷ []) (same_Some x b at)
    by (x ∷ xs) (suc i) at = ap (λ rest. x ∷ rest) (by xs i at)

pub single : (q b : ℕ) → list_any (nat_eq q) (b ∷ []) ≡ true → q ≡ b
single q b is = elim (cases_Bool (nat_eq q b)) [
  | inl same ↦ eqb-true q b same
  | inr other ↦ let clash : false ≡ true = sym (ap (λ t. t || false) other) ∙ is in absurd (cc)
]

-- all so far are all, at the end
pub take_past : (xs : List ℕ) (i : ℕ) → length xs ≤ i → take i xs ≡ xs
take_past [] zero past = refl
take_past [] (suc i) past = refl
take_past (x ∷ xs) zero past = absurd (omega (arith, past))
take_past (x ∷ xs) (suc i) past = ap (λ rest. x ∷ rest) (take_past xs i (omega (arith, past)))

pub get_behind : (xs ys : List ℕ) (i k c : ℕ) → i ≡ length xs + k → slice_get (xs ++ ys) i ≡ Some c
    → slice_get ys k ≡ Some c
get_behind [] ys i k c sum at = let same : i ≡ k = omega (arith, sum) in ap (slice_get ys) (sym same) ∙ at
get_behind (x ∷ xs) ys zero k c sum at = absurd (omega (arith, sum))
get_behind (x ∷ xs) ys (suc i) k c sum at = get_behind xs ys i k c (omega (arith, sum)) at

pub drop_behind : (xs ys : List ℕ) (i k : ℕ) → i ≡ length xs + k → drop i (xs ++ ys) ≡ drop k ys
drop_behind [] ys i k sum = let same : i ≡ k = omega (arith, sum) in ap (λ n. drop n ys) same
drop_behind (x ∷ xs) ys zero k sum = absurd (omega (arith, sum))
drop_behind (x ∷ xs) ys (suc i) k sum = drop_behind xs ys i k (omega (arith, sum))

pub get_below : (xs : List ℕ) (i c : ℕ) → slice_get xs i ≡ Some c → i < length xs
get_below [] i c at = absurd (none-some c at)
get_below (x ∷ xs) zero c at = omega arith
get_below (x ∷ xs) (suc i) c at = omega (arith, get_below xs i c at)

pub take_front : (xs ys : List ℕ) → take (length xs) (xs ++ ys) ≡ xs
take_front [] ys = refl
take_front (x ∷ xs) ys = ap (λ rest. x ∷ rest) (take_front xs ys)

-- ---- a number found at a place

-- what is found at a place stands there
pub found_stands : (b i : ℕ) (bits : List ℕ) → position (nat_eq b) bits ≡ Some i → slice_get bits i ≡ Some b
found_stands b i bits found =
    let facts = position-Some (nat_eq b) bits i b found in
    let at = within_has bits i facts.0 in
    let same : b ≡ get_or bits i b = eqb-true b (get_or bits i b) facts.1 in
    at.1 ∙ ap Some (sym (get_or_from_slice_get bits i at.0 b at.1) ∙ sym same)

-- it is among those up to there
pub stands_before : (b i n : ℕ) (bits : List ℕ) → slice_get bits i ≡ Some b → i < n
    → list_any (nat_eq b) (take n bits) ≡ true
stands_before b i n [] at before = absurd (none-some b at)
stands_before b zero zero (x ∷ bits) at before = absurd (omega (arith, before))
stands_before b zero (suc n) (x ∷ bits) at before =
    or_left (nat_eq b x) (list_any (nat_eq b) (take n bits)) (eq-eqb b x (sym (same_Some x b at)))
stands_before b (suc i) zero (x ∷ bits) at before = absurd (omega (arith, before))
stands_before b (suc i) (suc n) (x ∷ bits) at before =
    or_right (nat_eq b x) (list_any (nat_eq b) (take n bits)) (stands_before b i n bits at (omega (arith, before)))

take_none : (n : ℕ) → take {A = ℕ} n [] ≡ []
take_none zero = refl
take_none (suc n) = refl

-- all that is left is the rest
pub rest_all : (i : ℕ) (bits : List ℕ) → take (length bits - i) (drop i bits) ≡ drop i bits
rest_all zero bits =
    let whole : length bits - 0 ≡ length bits = omega arith in
    ap (λ n. take n bits) whole ∙ all bits
  where
    all : (xs : List ℕ) → take (length xs) xs ≡ xs
    all [] = refl
    all (x ∷ xs) = ap (λ rest. x ∷ rest) (all xs)
rest_all (suc i) [] = take_none (0 - suc i)
rest_all (suc i) (x ∷ bits) =
    let fewer : length (x ∷ bits) - suc i ≡ length bits - i = omega arith in
    ap (λ n. take n (drop i bits)) fewer ∙ rest_all i bits

-- and it is among those from there on
stands_behind : (b i : ℕ) (bits : List ℕ) → slice_get bits i ≡ Some b → list_any (λ a. a == b) (drop i bits) ≡ true
stands_behind b i [] at = absurd (none-some b at)
stands_behind b zero (x ∷ bits) at =
    or_left (x == b) (list_any (λ a. a == b) bits) (eq-eqb x b (same_Some x b at))
stands_behind b (suc i) (x ∷ bits) at = stands_behind b i bits at

pub stands_in_rest : (b i : ℕ) (bits rest : List ℕ) → rest ≡ bits → slice_get bits i ≡ Some b
    → list_any (λ a. a == b) (take (length rest - i) (drop i rest)) ≡ true
stands_in_rest b i bits rest same at =
    ap (list_any (λ a. a == b)) (ap (λ xs. take (length xs - i) (drop i xs)) same ∙ rest_all i bits)
    ∙ stands_behind b i bits at

-- the least from where the walk came upon a bit of its own
