-- Laws of parts: where the rows of a part come from, and how many there are.
use Rattle.std.proofs.Common.{◌≡◌, ℕ, zero, suc, pred, ◌+◌, ◌-◌, ◌*◌, ◌/◌, ◌%◌, ◌<◌, ◌≤◌, true, false, List, [], ◌∷◌, length, get_or, eqb, inl, inr, refl, sym, ap, ◌∙◌, arith, eq-eqb, ne_eqb, ◌↔◌}
use Rattle.std.proofs.lemmas.Bool.{cases_lt}
use Rattle.std.proofs.Math.Nat.{div-lt_iff_lt-mul}
use Rattle.std.proofs.lemmas.Nat.{mod-mul-add}
use Rattle.cs_base.specs.Parts.{part_from, part}

-- every c-th row, after the first wait
waiting : {A : Type 0} → ℕ → ℕ → List A → List A
waiting w c [] = []
waiting zero c (x ∷ xs) = x ∷ waiting (pred c) c xs
waiting (suc w) c (x ∷ xs) = waiting w c xs

get_or-waiting : {A : Type 0} (xs : List A) (w c i : ℕ) (d : A)
    → get_or (waiting w (suc c) xs) i d ≡ get_or xs (i * suc c + w) d
unfolding waiting
get_or-waiting [] w c i d = refl
get_or-waiting (x ∷ xs) zero c zero d = let place : 0 * suc c + 0 ≡ 0 = omega arith in sym (ap (λ n. get_or
    (x ∷ xs) n d) place)
get_or-waiting (x ∷ xs) zero c (suc i) d =
    let place : suc i * suc c + 0 ≡ suc (i * suc c + c) = omega arith in
    get_or-waiting xs c c i d ∙ sym (ap (λ n. get_or (x ∷ xs) n d) place)
get_or-waiting (x ∷ xs) (suc w) c i d =
    let place : i * suc c + suc w ≡ suc (i * suc c + w) = omega arith in
    get_or-waiting xs w c i d ∙ sym (ap (λ n. get_or (x ∷ xs) n d) place)

-- row i of a part is there where row i * c + w is
waiting_in : {A : Type 0} (xs : List A) (w c i : ℕ)
    → (i < length (waiting w (suc c) xs)) ↔ (i * suc c + w < length xs)
unfolding waiting
waiting_in [] w c i = (λ h. absurd (omega arith), λ h. absurd (omega arith))
waiting_in (x ∷ xs) zero c zero = (λ h. omega arith, λ h. omega arith)
waiting_in (x ∷ xs) zero c (suc i) = let rest = waiting_in xs c c i in (
  λ h. let there = rest.0 (omega
      arith) in omega arith,
  λ h. let there = rest.1 (omega arith) in omega arith,
)
waiting_in (x ∷ xs) (suc w) c i = let rest = waiting_in xs w c i in (
  λ h. let there = rest.0 h in omega
      arith,
  λ h. rest.1 (omega arith),
)

-- how far place q * c + r is from the next one that is k modulo c
data Waits (k c : ℕ) : ℕ → ℕ → Type 0 where
  before : {r w : ℕ} → r + w ≡ k → Waits k c r w
  after : {r w : ℕ} → r + w ≡ k + c → k < r → Waits k c r w

rest_is : (i c r q : ℕ) → i ≡ q * c + r → r < c → i % c ≡ r
rest_is i c r q is small = ap (λ n. n % c) is ∙ mod-mul-add q c r small

-- place i is r after a multiple of c + 1, and w before the next one that is k modulo it
record At (k c i w : ℕ) : Type 0 where
  q : ℕ
  r : ℕ
  is : i ≡ q * suc c + r
  small : r < suc c
  waits : Waits k (suc c) r w

step_before : (k c i q r w : ℕ) → k < suc c → i ≡ q * suc c + r → suc r + w ≡ k → At k c (i + 1) w
step_before k c i q r w below is more = record {
  q = q;
  r = suc r;
  is = omega arith;
  small = omega arith;
  waits = before more;
}

step_after : (k c i q r w : ℕ) → i ≡ q * suc c + r → r < suc c → suc r + w ≡ k + suc c → k ≤ r
    → At k c (i + 1) w
step_after k c i q r w is small more past =
    elim (cases_lt r c) [
      | inl lower ↦ record {
        q = q;
        r = suc r;
        is = omega arith;
        small = omega arith;
        waits = after more
            (omega arith);
      }
      | inr upper ↦ let top : r ≡ c = omega arith in record {
        q = suc q;
        r = 0;
        is = omega arith;
        small =
            omega arith;
        waits = before (omega arith);
      }
    ]

-- at place i a row is taken or passed over, and then it goes on
data Step (k c i : ℕ) : ℕ → Type 0 where
  taken : eqb (i % suc c) k ≡ true → At k c (i + 1) c → Step k c i zero
  passes : {w : ℕ} → eqb (i % suc c) k ≡ false → At k c (i + 1) w → Step k c i (suc w)

step_of : (k c i q r w : ℕ) → k < suc c → i ≡ q * suc c + r → r < suc c → Waits k (suc c) r w → Step k c i w
step_of k c i q r zero below is small (before same) =
    taken (eq-eqb (i % suc c) k (rest_is i (suc c) r q is small ∙ omega arith)) (step_after k c i q r c is
    small (omega arith) (omega arith))
step_of k c i q r (suc w) below is small (before more) =
    passes (ne_eqb (i % suc c) k (λ e. let rest = rest_is i (suc c) r q is small in absurd (omega arith)))
    (step_before k c i q r w below is (omega arith))
step_of k c i q r zero below is small (after more past) = absurd (omega arith)
step_of k c i q r (suc w) below is small (after more past) =
    passes (ne_eqb (i % suc c) k (λ e. let rest = rest_is i (suc c) r q is small in absurd (omega arith)))
    (step_after k c i q r w is small (omega arith) (omega arith))

step_at : (k c i w : ℕ) → k < suc c → At k c i w → Step k c i w
step_at k c i w below at = step_of k c i at.q at.r w below at.is at.small at.waits

linked_by : {A : Type 0} (x : A) (xs : List A) (k c i w : ℕ) → ((v : ℕ) → At k c (i + 1) v
    → part_from (i + 1) k (suc c) xs ≡ waiting v (suc c) xs) → Step k c i w
    → part_from i k (suc c) (x ∷ xs) ≡ waiting w (suc c) (x ∷ xs)
unfolding waiting
linked_by x xs k c i zero rest (taken is next) = rw is (ap (λ ys. x ∷ ys) (rest c next))
linked_by x xs k c i (suc w) rest (passes is next) = rw is (rest w next)

-- the rest of the part, from place i on
linked : {A : Type 0} (xs : List A) (k c i w : ℕ) → k < suc c → At k c i w
    → part_from i k (suc c) xs ≡ waiting w (suc c) xs
unfolding waiting
linked [] k c i w below at = refl
linked (x ∷ xs) k c i w below at = linked_by x xs k c i w (λ v next. linked xs k c (i + 1) v below next)
    (step_at k c i w below at)

part-waiting : {A : Type 0} (xs : List A) (k c : ℕ) → k < suc c → part k (suc c) xs ≡ waiting k (suc c) xs
unfolding part
part-waiting xs k c below = linked xs k c 0 k below (record {
  q = 0;
  r = 0;
  is = omega arith;
  small = omega
      arith;
  waits = before (omega arith);
})

-- ---- what a part has

-- row i of part k is row i * c + k
pub get_or-part : {A : Type 0} (xs : List A) (k c i : ℕ) (d : A) → k < c
    → get_or (part k c xs) i d ≡ get_or xs (i * c + k) d
get_or-part xs k zero i d below = absurd (omega arith)
get_or-part xs k (suc c) i d below = ap (λ ys. get_or ys i d) (part-waiting xs k c below) ∙ get_or-waiting
    xs k c i d

-- and it is there exactly where that row is
pub part_in : {A : Type 0} (xs : List A) (k c i : ℕ) → k < c
    → (i < length (part k c xs)) ↔ (i * c + k < length xs)
part_in xs k zero i below = absurd (omega arith)
part_in xs k (suc c) i below = rw (part-waiting xs k c below) (waiting_in xs k c i)

-- the number of its rows
at_most : (n k c l : ℕ) → k < c → n ≤ l * c + k → (n + c - 1 - k) / c ≤ l
at_most n k c l below h =
    let some : 0 < c = omega arith in
    let small : n + c - 1 - k < suc l * c = omega arith in
    let d : (n + c - 1 - k) / c < suc l = (div-lt_iff_lt-mul some).1 small in omega arith

at_least : (n k c l : ℕ) → k < c → ((i : ℕ) → i < l → i * c + k < n) → l ≤ (n + c - 1 - k) / c
at_least n k c zero below h = omega arith
at_least n k c (suc l) below h =
    let some : 0 < c = omega arith in
    let last : l * c + k < n = h l (omega arith) in
    elim (cases_lt ((n + c - 1 - k) / c) (suc l)) [
      | inl less ↦ let small : n + c - 1 - k < suc l * c = (div-lt_iff_lt-mul some).0 less in absurd (omega
          arith)
      | inr enough ↦ enough
    ]

none_past : (n k c l : ℕ) → ((i : ℕ) → (i < l) ↔ (i * c + k < n)) → n ≤ l * c + k
none_past n k c l h = elim (cases_lt (l * c + k) n) [
  | inl there ↦ let more = (h l).1 there in absurd (omega
      arith)
  | inr past ↦ past
]

pub length-part : {A : Type 0} (xs : List A) (k c : ℕ) → k < c
    → length (part k c xs) ≡ (length xs + c - 1 - k) / c
length-part xs k c below =
    let most = at_most (length xs) k c (length (part k c xs)) below (none_past (length xs) k c (length
    (part k c xs)) (λ i. part_in xs k c i below)) in
    let fewest = at_least (length xs) k c (length (part k c xs)) below (λ i. (part_in xs k c i below).0) in
    omega arith

-- the one context of one has every row
every_row : {A : Type 0} (xs : List A) → waiting 0 1 xs ≡ xs
unfolding waiting
every_row [] = refl
every_row (x ∷ xs) = ap (λ ys. x ∷ ys) (every_row xs)

pub part_whole : {A : Type 0} (xs : List A) → part 0 1 xs ≡ xs
part_whole xs = part-waiting xs 0 0 (omega arith) ∙ every_row xs
