-- The weight of the trail rises with each step, and where later levels are exchanged for one step more at an earlier one.
use Rattle.std.proofs.Common.{◌≡◌, ℕ, zero, suc, ◌+◌, ◌*◌, ◌-◌, ◌<◌, ◌≤◌, List, [], ◌∷◌, ◌++◌, Some, length, refl, subst, ap, arith}
use Rattle.std.specs.List.{slice_get}
use Rattle.std.proofs.lemmas.List.{length-append}
use Rattle.std.proofs.Math.Nat.{mul-le-mul_left}
use Rattle.cs_sat.specs.declared.trail.Step.{Step}
use Rattle.cs_sat.specs.Weights.{power, step_weight, weight}

pub power_some : (size n : ℕ) → 1 ≤ power size n
power_some size zero = omega arith
power_some size (suc n) = omega (arith, power_some size n)

power_more : (size n d : ℕ) → power size n ≤ power size (n + d)
power_more size n zero = let e : n + 0 ≡ n = omega arith in rw e (omega arith)
power_more size n (suc d) =
    let e : n + suc d ≡ suc (n + d) = omega arith in
    rw e (omega (arith, power_more size n d))

pub power_grows : (size m n : ℕ) → m ≤ n → power size m ≤ power size n
power_grows size m n below =
    let e : m + (n - m) ≡ n = omega arith in
    subst (λ k. power size m ≤ power size k) e (power_more size m (n - m))

pub weight_append : (size : ℕ) (xs ys : List Step) → weight size (xs ++ ys) ≡ weight size xs + weight size ys
weight_append size [] ys = omega arith
weight_append size (x ∷ xs) ys = omega (arith, weight_append size xs ys)

-- steps that each count for so much at most
weight_at_most : (size most : ℕ) (xs : List Step)
    → ((i : ℕ) (s : Step) → slice_get xs i ≡ Some s → step_weight size s ≤ most)
    → weight size xs ≤ length xs * most
weight_at_most size most [] each = omega arith
weight_at_most size most (x ∷ xs) each =
    omega (arith, each zero x refl, weight_at_most size most xs (λ i s found. each (suc i) s found))

pub weight_bound : (size : ℕ) (xs : List Step) → length xs ≤ size → weight size xs < power size (size + 1)
weight_bound size xs within =
    let each : weight size xs ≤ length xs * power size size =
    weight_at_most size (power size size) xs
    (λ i s found. power_grows size (size - s.level) size (omega arith)) in
    let all : power size size * length xs ≤ power size size * size = mul-le-mul_left (power size size) within in
    let some = power_some size size in
    let e : size + 1 ≡ suc size = omega arith in
    rw e (omega arith)

-- one step at an earlier level for all steps of later ones
pub weight_rises : (size level : ℕ) (kept taken : List Step) (s : Step) → level < size → s.level ≤ level
    → length (kept ++ taken) ≤ size → ((i : ℕ) (t : Step) → slice_get taken i ≡ Some t → level < t.level)
    → weight size (kept ++ taken) < weight size (kept ++ s ∷ [])
weight_rises size level kept taken s below low within later =
    let rest = size - level - 1 in
    let each : weight size taken ≤ length taken * power size rest =
    weight_at_most size (power size rest) taken
    (λ i t found. let high = later i t found in power_grows size (size - t.level) rest (omega arith)) in
    let fewer : length taken ≤ size = omega (arith, length-append kept taken) in
    let all : power size rest * length taken ≤ power size rest * size = mul-le-mul_left (power size rest) fewer in
    let some = power_some size rest in
    let e : size - level ≡ suc rest = omega arith in
    let one : power size (size - level) ≡ size * power size rest + power size rest = ap (power size) e in
    let most : power size (size - level) ≤ power size (size - s.level) =
    power_grows size (size - level) (size - s.level) (omega arith) in
    rw (weight_append size kept taken, weight_append size kept (s ∷ [])) (omega arith)

pub weight_push : (size : ℕ) (xs : List Step) (s : Step) → weight size xs < weight size (xs ++ s ∷ [])
weight_push size xs s = rw (weight_append size xs (s ∷ [])) (omega (arith, power_some size (size - s.level)))

pub weight_more : (size : ℕ) (xs ys : List Step) → weight size xs ≤ weight size (xs ++ ys)
weight_more size xs ys = rw (weight_append size xs ys) (omega arith)
