-- Numbers that rise and have the same members as others are those in order.
use Rattle.std.specs.Prelude.{nat_le, ◌==◌}
use Rattle.std.proofs.Common.{◌≡◌, ℕ, suc, ◌<◌, ◌≤◌, Bool, true, false, cond, List, [], ◌∷◌, filter, get_or, length, refl, sym, ap, ap₂, ◌∙◌, arith, inl, inr}
use Rattle.std.specs.List.{list_all, list_any, sum_by}
use Rattle.std.specs.List.Sorted.{IsPermutation, IsSorted}
use Rattle.std.specs.Ordering.{nat_cmp}
use Rattle.std.proofs.lemmas.Bool.{and_from, and_parts, cases_lt, eq-eqb, eqb-true, le-leb, leb-true, or_left, or_right}
use Rattle.std.proofs.lemmas.List.Sorted.{IsNonDecreasingBy-from_sort, sum_by-IsPermutation}
use Rattle.std.proofs.lemmas.List.Sums.{sum_by-cons}
use Rattle.cs_lower.specs.Rings.{in_order, in_place}

-- whether a number is another, as a count
abbrev alike : ℕ → ℕ → ℕ
alike q x = cond (x == q) 1 0

-- how often a number stands in a list
abbrev times : ℕ → List ℕ → ℕ
times q xs = sum_by (alike q) xs

-- each number is no less than those before it
abbrev Rises : List ℕ → Type 0
Rises [] = Unit {0}
Rises (x ∷ xs) = (list_all (λ a. nat_le x a) xs ≡ true) × Rises xs

-- ---- numbers in order

times_placed : (q b : ℕ) (xs : List ℕ) → times q (in_place b xs) ≡ times q (b ∷ xs)
times_placed q b [] = refl
times_placed q b (x ∷ xs) = by (nat_le b x) (times_placed q b xs)
  where
    by : (first : Bool) → times q (in_place b xs) ≡ times q (b ∷ xs)
        → times q (cond first (b ∷ x ∷ xs) (x ∷ in_place b xs)) ≡ times q (b ∷ x ∷ xs)
    by true rest = refl
    by false rest =
        let here = sum_by-cons (alike q) x (in_place b xs) in
        let old = sum_by-cons (alike q) b xs in
        let all = sum_by-cons (alike q) b (x ∷ xs) in
        let then = sum_by-cons (alike q) x xs in
        omega (arith, here, old, all, then, rest)

times_ordered : (q : ℕ) (xs : List ℕ) → times q (in_order xs) ≡ times q xs
times_ordered q [] = refl
times_ordered q (x ∷ xs) =
    let here = times_placed q x (in_order xs) in
    let first = sum_by-cons (alike q) x (in_order xs) in
    let all = sum_by-cons (alike q) x xs in
    omega (arith, here, first, all, times_ordered q xs)

all_more : (m n : ℕ) (xs : List ℕ) → m ≤ n → list_all (λ a. nat_le n a) xs ≡ true → list_all (λ a. nat_le m a) xs ≡ true
all_more m n [] below all = refl
all_more m n (x ∷ xs) below all =
    let parts = and_parts (nat_le n x) (list_all (λ a. nat_le n a) xs) all in
    and_from (nat_le m x) (list_all (λ a. nat_le m a) xs)
    (le-leb m x (omega (arith, below, leb-true n x parts.0))) (all_more m n xs below parts.1)

all_placed : (m b : ℕ) (xs : List ℕ) → m ≤ b → list_all (λ a. nat_le m a) xs ≡ true
    → list_all (λ a. nat_le m a) (in_place b xs) ≡ true
all_placed m b [] below all = and_from (nat_le m b) true (le-leb m b below) refl
all_placed m b (x ∷ xs) below all =
    let parts = and_parts (nat_le m x) (list_all (λ a. nat_le m a) xs) all in
    by (nat_le b x) parts.0 (all_placed m b xs below parts.1)
  where
    by : (first : Bool) → nat_le m x ≡ true → list_all (λ a. nat_le m a) (in_place b xs) ≡ true
        → list_all (λ a. nat_le m a) (cond first (b ∷ x ∷ xs) (x ∷ in_place b xs)) ≡ true
    by true here rest = and_from (nat_le m b) (list_all (λ a. nat_le m a) (x ∷ xs)) (le-leb m b below) all
    by false here rest = and_from (nat_le m x) (list_all (λ a. nat_le m a) (in_place b xs)) here rest

rises_placed : (b : ℕ) (xs : List ℕ) → Rises xs → Rises (in_place b xs)
rises_placed b [] rises = (refl, tt)
rises_placed b (x ∷ xs) rises = by (nat_le b x) refl (rises_placed b xs rises.1)
  where
    by : (first : Bool) → nat_le b x ≡ first → Rises (in_place b xs)
        → Rises (cond first (b ∷ x ∷ xs) (x ∷ in_place b xs))
    by true is rest =
        let below : b ≤ x = leb-true b x is in (
          and_from (nat_le b x) (list_all (λ a. nat_le b a) xs) is (all_more b x xs below rises.0),
          rises,
        )
    by false is rest = (all_placed x b xs above rises.0, rest)
      where
        above : x ≤ b
        above = elim (cases_lt b x) [
          | inl less ↦
              let yes : nat_le b x ≡ true = le-leb b x (omega (arith, less)) in
              let bad : false ≡ true = sym is ∙ yes in absurd (cc)
          | inr most ↦ most
        ]

rises_ordered : (xs : List ℕ) → Rises (in_order xs)
rises_ordered [] = tt
rises_ordered (x ∷ xs) = rises_placed x (in_order xs) (rises_ordered xs)

-- ---- two lists that rise

once : (q : ℕ) → alike q q ≡ 1
once q = let yes : (q == q) ≡ true = eq-eqb q q refl in ap (λ t. cond t 1 0) yes

-- what stands in a list that rises is no less than its first
first_least : (q x : ℕ) (xs : List ℕ) → list_all (λ a. nat_le x a) xs ≡ true → 0 < times q xs → x ≤ q
first_least q x [] all some = absurd (omega (arith, some))
first_least q x (y ∷ xs) all some = by (y == q) refl (λ more. first_least q x xs parts.1 more)
  where
    parts : (nat_le x y ≡ true) × (list_all (λ a. nat_le x a) xs ≡ true)
    parts = and_parts (nat_le x y) (list_all (λ a. nat_le x a) xs) all

    by : (same : Bool) → (y == q) ≡ same → (0 < times q xs → x ≤ q) → x ≤ q
    by true same later =
        let here : y ≡ q = eqb-true y q same in omega (arith, here, leb-true x y parts.0)
    by false other later =
        let none : alike q y ≡ 0 = ap (λ t. cond t 1 0) other in
        later (omega (arith, some, none, sum_by-cons (alike q) y xs))

same_first : (x y : ℕ) (xs ys : List ℕ) → Rises (x ∷ xs) → Rises (y ∷ ys)
    → ((q : ℕ) → times q (x ∷ xs) ≡ times q (y ∷ ys)) → x ≤ y
same_first x y xs ys rises_x rises_y same = by (x == y) refl
  where
    by : (eq : Bool) → (x == y) ≡ eq → x ≤ y
    by true is = let here : x ≡ y = eqb-true x y is in omega (arith, here)
    by false other =
        let none : alike y x ≡ 0 = ap (λ t. cond t 1 0) other in
        let one : alike y y ≡ 1 = once y in
        first_least y x xs rises_x.0
        (omega (arith, same y, none, one, sum_by-cons (alike y) x xs, sum_by-cons (alike y) y ys))

more_than_none : (y : ℕ) (ys : List ℕ) → 0 ≡ times y (y ∷ ys) → ⊥
more_than_none y ys none = absurd (omega (arith, none, once y, sum_by-cons (alike y) y ys))

same_rest : (x y q : ℕ) (xs ys : List ℕ) → x ≡ y → times q (x ∷ xs) ≡ times q (y ∷ ys) → times q xs ≡ times q ys
same_rest x y q xs ys first same =
    let both : alike q x ≡ alike q y = ap (alike q) first in
    omega (arith, same, both, sum_by-cons (alike q) x xs, sum_by-cons (alike q) y ys)

same_rising : (xs ys : List ℕ) → Rises xs → Rises ys → ((q : ℕ) → times q xs ≡ times q ys) → xs ≡ ys
same_rising [] [] rises_x rises_y same = refl
same_rising [] (y ∷ ys) rises_x rises_y same = absurd (more_than_none y ys (same y))
same_rising (x ∷ xs) [] rises_x rises_y same = absurd (more_than_none x xs (sym (same x)))
same_rising (x ∷ xs) (y ∷ ys) rises_x rises_y same =
    ap₂ (λ z zs. z ∷ zs) first
    (same_rising xs ys rises_x.1 rises_y.1 (λ q. same_rest x y q xs ys first (same q)))
  where
    first : x ≡ y
    first = omega (
      arith,
      same_first x y xs ys rises_x rises_y same,
      same_first y x ys xs rises_y rises_x (λ q. sym (same q)),
    )

-- ---- sorted numbers

rising : (xs : List ℕ) → ((i j d : ℕ) → i ≤ j → j < length xs → get_or xs i d ≤ get_or xs j d) → Rises xs
rising [] up = tt
rising (x ∷ xs) up = (
  all_above x xs (λ j below. up 0 (suc j) 0 (omega arith) (omega (arith, below))),
  rising xs (λ i j d order below. up (suc i) (suc j) d (omega (arith, order)) (omega (arith, below))),
)
  where
    all_above : (x : ℕ) (xs : List ℕ) → ((j : ℕ) → j < length xs → x ≤ get_or xs j 0)
        → list_all (λ a. nat_le x a) xs ≡ true
    all_above x [] up = refl
    all_above x (y ∷ ys) up =
        and_from (nat_le x y) (list_all (λ a. nat_le x a) ys) (le-leb x y (up 0 (omega arith)))
        (all_above x ys (λ j below. up (suc j) (omega (arith, below))))

sorted_in_order : (xs ys : List ℕ) → IsPermutation xs ys → IsSorted nat_cmp ys → ys ≡ in_order xs
sorted_in_order xs ys permuted sorted =
    same_rising ys (in_order xs) (rising ys up) (rises_ordered xs)
    (λ q. sum_by-IsPermutation (alike q) xs ys permuted ∙ sym (times_ordered q xs))
  where
    up : (i j d : ℕ) → i ≤ j → j < length ys → get_or ys i d ≤ get_or ys j d
    up = IsNonDecreasingBy-from_sort (λ x. x) ys sorted

-- ---- chosen numbers

same_chosen : (test other : ℕ → Bool) (xs : List ℕ)
    → ((b : ℕ) → list_any (λ a. a == b) xs ≡ true → test b ≡ other b) → filter test xs ≡ filter other xs
same_chosen test other [] same = refl
same_chosen test other (x ∷ xs) same =
    ap₂ (λ t rest. cond t (x ∷ rest) rest)
    (same x (or_left (x == x) (list_any (λ a. a == x) xs) (eq-eqb x x refl)))
    (same_chosen test other xs (λ b is. same b (or_right (x == b) (list_any (λ a. a == b) xs) is)))

-- what is chosen by a set in which the members are those that pass, and sorted
pub chosen_in_order : (in_set test : ℕ → Bool) (all first again chosen sorted : List ℕ) → first ≡ all → again ≡ all
    → ((b : ℕ) → list_any (λ a. a == b) first ≡ true → in_set b ≡ test b) → chosen ≡ filter in_set again
    → IsPermutation chosen sorted → IsSorted nat_cmp sorted → sorted ≡ in_order (filter test all)
chosen_in_order in_set test all first again chosen sorted same_first same_again right is permuted rises =
    sorted_in_order chosen sorted permuted rises
    ∙ ap in_order (is ∙ ap (filter in_set) same_again
    ∙ same_chosen in_set test all (λ b among. right b (ap (list_any (λ a. a == b)) same_first ∙ among)))
