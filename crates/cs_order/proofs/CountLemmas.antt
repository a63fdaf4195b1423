-- How long a list is in which each number below n stands, or none twice: by marks for those that stand
-- there.
use Rattle.std.proofs.Common.{◌≡◌, ℕ, zero, suc, ◌+◌, ◌<◌, ◌≤◌, Bool, true, false, cond, List, [], ◌∷◌, length, Some, get_or, set, replicate, refl, sym, ap, ◌∙◌, arith, inl, inr}
use Rattle.std.specs.Prelude.{slice_get, Contains, count_by}
use Rattle.std.proofs.lemmas.Bool.{cases_eq, cases_lt}
use Rattle.std.proofs.lemmas.List.{get_or-set_same, get_or-set_other, get_or-replicate, get_or_past, length-replicate}
use Rattle.std.proofs.lemmas.List.Folds.{sum_by-replicate}
use Rattle.std.proofs.lemmas.List.Sums.{sum_by-set, sum_by-cons, count_by-le-length}
use Rattle.std.proofs.Math.ListN.{length-set}
use Rattle.cs_order.specs.Graphs.{HasNoRepeat}
use Rattle.cs_base.proofs.ListLemmas.{contains_at}

-- the numbers below n that stand in the list
marks : ℕ → List ℕ → List Bool
marks n [] = replicate n false
marks n (x ∷ xs) = set (marks n xs) x true

marks_length : (n : ℕ) (xs : List ℕ) → length (marks n xs) ≡ n
unfolding marks
marks_length n [] = length-replicate n false
marks_length n (x ∷ xs) = length-set (marks n xs) x true ∙ marks_length n xs

count : List Bool → ℕ
count bits = count_by (λ b. b) bits

none_marked : (n : ℕ) → count (replicate n false) ≡ 0
unfolding count
none_marked n = omega (arith, sum_by-replicate (λ (b : Bool). cond b 1 0) n false)

-- a mark more
count_set : (bits : List Bool) (x : ℕ) → x < length bits
    → count (set bits x true) + cond (get_or bits x false) 1 0 ≡ count bits + 1
unfolding count
count_set bits x below = sum_by-set (λ (b : Bool). cond b 1 0) bits x true false below

set_past : (bits : List Bool) (x : ℕ) → length bits ≤ x → set bits x true ≡ bits
set_past [] x past = refl
set_past (b ∷ bits) zero past = absurd (omega arith)
set_past (b ∷ bits) (suc x) past = ap (λ rest. b ∷ rest) (set_past bits x (omega arith))

-- no more are marked than stand there
few_marked : (n : ℕ) (xs : List ℕ) → count (marks n xs) ≤ length xs
unfolding marks
few_marked n [] = omega (arith, none_marked n)
few_marked n (x ∷ xs) =
    let before = few_marked n xs in
    elim (cases_lt x n) [
      | inl below ↦ omega (arith, count_set (marks n xs) x (omega (arith, marks_length n xs)))
      | inr past ↦ rw (set_past (marks n xs) x (omega (arith, marks_length n xs))) (omega arith)
    ]

-- what stands there is marked
mark_here : (bits : List Bool) (x v : ℕ) → v < length bits → v ≡ x → get_or (set bits x true) v false ≡ true
mark_here bits x v below same = ap (λ u. get_or (set bits x true) u false) same
    ∙ get_or-set_same bits x true false (omega arith)

marked : (n : ℕ) (xs : List ℕ) (i v : ℕ) → v < n → slice_get xs i ≡ Some v
    → get_or (marks n xs) v false ≡ true
unfolding marks
marked n [] i v below is = cc
marked n (x ∷ xs) zero v below is = mark_here (marks n xs) x v (omega (arith, marks_length n xs)) (cc)
marked n (x ∷ xs) (suc i) v below is = elim (cases_eq v x) [
  | inl same ↦ mark_here (marks n xs) x v (omega (arith, marks_length n xs)) same
  | inr other ↦ get_or-set_other (marks n xs) x v true false other ∙ marked n xs i v below is
]

-- what is marked stands there
stands_marked : (n : ℕ) (xs : List ℕ) (v : ℕ) → get_or (marks n xs) v false ≡ true
    → (i : ℕ) × (slice_get xs i ≡ Some v)
unfolding marks
stands_marked n [] v is = elim (cases_lt v n) [
  | inl below ↦ let none = get_or-replicate n v false false below in cc
  | inr past ↦
      let none = get_or_past (replicate n false) v false (omega (arith, length-replicate n false)) in cc
]
stands_marked n (x ∷ xs) v is = elim (cases_eq v x) [
  | inl same ↦ (0, ap (λ y. Some y) (sym same))
  | inr other ↦
      let rest = stands_marked n xs v (sym (get_or-set_other (marks n xs) x v true false other) ∙ is) in
      (suc rest.0, rest.1)
]

all_marked : (bits : List Bool) → ((v : ℕ) → v < length bits → get_or bits v false ≡ true)
    → count bits ≡ length bits
unfolding count
all_marked [] all = refl
all_marked (b ∷ bits) all =
    let here : b ≡ true = all 0 (omega arith) in
    let one : cond b 1 0 ≡ 1 = ap {B = ℕ} (λ c. cond c 1 0) here in
    omega (
      arith,
      one,
      sum_by-cons (λ (c : Bool). cond c 1 0) b bits,
      all_marked bits (λ v below. all (suc v) (omega arith)),
    )

pub count_at_least : (n : ℕ) (xs : List ℕ) → ((v : ℕ) → v < n → Contains xs v) → n ≤ length xs
count_at_least n xs all =
    let whole = all_marked (marks n xs) (λ v below.
    let small : v < n = omega (arith, marks_length n xs) in
    let i = contains_at xs v (all v small) in
    marked n xs i.0 v small i.1) in
    omega (arith, few_marked n xs, marks_length n xs)

-- each that stands there is marked anew
not_marked : (b : Bool) → (b ≡ true → ⊥) → b ≡ false
not_marked true other = absurd (other refl)
not_marked false other = refl

each_marked : (n : ℕ) (xs : List ℕ) → ((i v : ℕ) → slice_get xs i ≡ Some v → v < n) → HasNoRepeat xs
    → count (marks n xs) ≡ length xs
unfolding marks
each_marked n [] below once = none_marked n
each_marked n (x ∷ xs) below once =
    let rest = each_marked n xs (λ i v is. below (suc i) v is)
    (λ i j v first second. let one = once (suc i) (suc j) v first second in omega arith) in
    let free : get_or (marks n xs) x false ≡ false = not_marked (get_or (marks n xs) x false) (λ is.
    let i = stands_marked n xs x is in
    let one = once 0 (suc i.0) x refl i.1 in
    omega arith) in
    let none : cond (get_or (marks n xs) x false) 1 0 ≡ 0 = ap {B = ℕ} (λ c. cond c 1 0) free in
    omega (arith, none, rest, count_set (marks n xs) x (omega (arith, marks_length n xs, below 0 x refl)))

pub count_at_most : (n : ℕ) (xs : List ℕ) → ((i v : ℕ) → slice_get xs i ≡ Some v → v < n)
    → HasNoRepeat xs → length xs ≤ n
unfolding count
count_at_most n xs below once = omega (
  arith,
  each_marked n xs below once,
  marks_length n xs,
  count_by-le-length (λ (b : Bool). b) (marks n xs),
)
