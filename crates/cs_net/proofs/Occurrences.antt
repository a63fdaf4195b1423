-- How often a list passes a test; where it does at most once, it does at one place.
use Rattle.std.proofs.Common.{◌≡◌, ◌∙◌, ℕ, zero, suc, ◌+◌, ◌≤◌, List, [], ◌∷◌, ◌++◌, Bool, true, false, cond, Some, ap, arith, drop, filter, map, refl, take}
use Rattle.std.specs.Prelude.{slice_get}
use Rattle.std.specs.List.{enumerate_from}

-- a test that is passed counts as one
abbrev pub one_if : Bool → ℕ
one_if true = 1
one_if false = 0

-- how many of a list pass a test
abbrev pub count_of : {A : Type 0} → (A → Bool) → List A → ℕ
count_of test [] = 0
count_of test (x ∷ xs) = one_if (test x) + count_of test xs

pub count_of-append : {A : Type 0} (test : A → Bool) (xs ys : List A) → count_of test (xs ++ ys) ≡ count_of test xs + count_of test ys
count_of-append test [] ys = let none : count_of test ys ≡ 0 + count_of test ys = omega arith in none
count_of-append test (x ∷ xs) ys = let rest = count_of-append test xs ys in omega arith

pub count_of-map : {A B : Type 0} (test : B → Bool) (f : A → B) (xs : List A) → count_of test (map f xs) ≡ count_of (λ x. test (f x)) xs
count_of-map test f [] = refl
count_of-map test f (x ∷ xs) = ap (λ n. one_if (test (f x)) + n) (count_of-map test f xs)

pub count_of-enumerate : {A : Type 0} (test : A → Bool) (n : ℕ) (xs : List A) → count_of (λ (e : ℕ × A). test e.1) (enumerate_from n xs) ≡ count_of test xs
count_of-enumerate test n [] = refl
count_of-enumerate test n (x ∷ xs) = ap (λ k. one_if (test x) + k) (count_of-enumerate test (n + 1) xs)

-- a filter keeps no more
pub count_of-filter : {A : Type 0} (test keep : A → Bool) (xs : List A) → count_of test (filter keep xs) ≤ count_of test xs
count_of-filter test keep [] = omega arith
count_of-filter test keep (x ∷ xs) = by (keep x) (count_of-filter test keep xs)
  where
    by : (t : Bool) → count_of test (filter keep xs) ≤ count_of test xs → count_of test (cond t (x ∷ filter keep xs) (filter keep xs)) ≤ one_if (test x) + count_of test xs
    by true rest = omega arith
    by false rest = omega arith

-- two parts of a list hold no more than the list
pub count_of-parts : {A : Type 0} (test : A → Bool) (n : ℕ) (xs : List A) → count_of test (take n xs) + count_of test (drop n xs) ≡ count_of test xs
count_of-parts test zero xs = omega arith
count_of-parts test (suc n) [] = refl
count_of-parts test (suc n) (x ∷ xs) = let rest = count_of-parts test n xs in omega arith

-- an element that passes is counted
pub counted : {A : Type 0} (test : A → Bool) (xs : List A) (i : ℕ) (x : A) → slice_get xs i ≡ Some x → test x ≡ true → 1 ≤ count_of test xs
counted test [] i x at passes = absurd (cc)
counted test (y ∷ xs) zero x at passes =
    let same : y ≡ x = cc in
    let here : one_if (test y) ≡ 1 = ap (λ z. one_if (test z)) same ∙ ap one_if passes in omega arith
counted test (y ∷ xs) (suc i) x at passes = let rest = counted test xs i x at passes in omega arith

-- at most one passes: two that do stand at one place
pub at_one_place : {A : Type 0} (test : A → Bool) (xs : List A) → count_of test xs ≤ 1 → (i j : ℕ) (x y : A) → slice_get xs i ≡ Some x → slice_get xs j ≡ Some y →
    test x ≡ true → test y ≡ true → i ≡ j
at_one_place test [] once i j x y at_i at_j first second = absurd (cc)
at_one_place test (z ∷ xs) once zero zero x y at_i at_j first second = refl
at_one_place test (z ∷ xs) once zero (suc j) x y at_i at_j first second =
    let same : z ≡ x = cc in
    let here : one_if (test z) ≡ 1 = ap (λ u. one_if (test u)) same ∙ ap one_if first in
    let later = counted test xs j y at_j second in absurd (omega arith)
at_one_place test (z ∷ xs) once (suc i) zero x y at_i at_j first second =
    let same : z ≡ y = cc in
    let here : one_if (test z) ≡ 1 = ap (λ u. one_if (test u)) same ∙ ap one_if second in
    let later = counted test xs i x at_i first in absurd (omega arith)
at_one_place test (z ∷ xs) once (suc i) (suc j) x y at_i at_j first second =
    let rest : i ≡ j = at_one_place test xs (omega arith) i j x y at_i at_j first second in
    ap suc rest
