-- Sums that stay at the greatest number of 64 bits, item by item.
use Rattle.std.proofs.Common.{◌≡◌, ℕ, zero, suc, ◌+◌, ◌≤◌, List, [], ◌∷◌, length, drop, refl, sym, ap, ◌∙◌, arith}
use Rattle.std.specs.Prelude.{min, slice_get, Some}
use Rattle.std.specs.List.{sum_by}
use Rattle.std.proofs.lemmas.List.Sums.{sum_by-cons}
use Rattle.cs_bank.proofs.Lists.{drop_at}

-- the greatest number of 64 bits
abbrev pub most : ℕ
most = 18446744073709551615

-- the count of the items below i, after what was counted before them, and the rest make the whole
pub record CountSoFar {A : Type 0} (f : A → ℕ) (xs : List A) (i total before : ℕ) : Type 0 where
  pub whole : min (total + sum_by f (drop i xs)) most ≡ min (before + sum_by f xs) most
  pub few : total ≤ most

pub drop_none : {A : Type 0} (zs : List A) → drop 0 zs ≡ zs
drop_none [] = refl
drop_none (z ∷ zs) = refl

pub drop_past : {A : Type 0} (xs : List A) (n : ℕ) → length xs ≤ n → drop n xs ≡ []
drop_past [] zero low = refl
drop_past [] (suc n) low = refl
drop_past (x ∷ xs) zero low = absurd (omega (arith, low))
drop_past (x ∷ xs) (suc n) low = drop_past xs n (omega (arith, low))

pub count_begins : {A : Type 0} (f : A → ℕ) (xs : List A) (total before : ℕ) → total ≡ before → total ≤ most
    → CountSoFar f xs 0 total before
count_begins f xs total before same few =
    let all = ap (sum_by f) (drop_none xs) in record {
      whole = omega (arith, all, same);
      few = few;
    }

pub capped : (total y a rest total' : ℕ) → y ≡ min a most → total' ≡ min (total + y) most
    → min (total' + rest) most ≡ min (total + (a + rest)) most
capped total y a rest total' each sum = omega (arith, each, sum)

-- one item more, whose count is y, or the greatest number
pub count_more : {A : Type 0} (f : A → ℕ) (xs : List A) (i total before : ℕ) (x : A) (y total' : ℕ)
    → CountSoFar f xs i total before → slice_get xs i ≡ Some x → y ≡ min (f x) most → total' ≡ min (total + y) most
    → CountSoFar f xs (i + 1) total' before
count_more f xs i total before x y total' so found each sum =
    let split = ap (sum_by f) (drop_at xs i x found) ∙ sum_by-cons f x (drop (i + 1) xs) in
    record {
      whole =
          capped total y (f x) (sum_by f (drop (i + 1) xs)) total' each sum
          ∙ ap (λ n. min (total + n) most) (sym split)
          ∙ so.whole;
      few = omega (arith, sum);
    }

pub count_ends : {A : Type 0} (f : A → ℕ) (xs : List A) (i total before : ℕ) → CountSoFar f xs i total before
    → length xs ≤ i → total ≡ min (before + sum_by f xs) most
count_ends f xs i total before so all =
    let none = ap (sum_by f) (drop_past xs i all) in
    let whole = so.whole in
    let few = so.few in
    omega (arith, none, whole, few)
