-- Binary digits, made one by one from the least.
use Rattle.std.proofs.Common.{◌≡◌, ℕ, suc, ◌+◌, ◌-◌, ◌/◌, ◌%◌, ◌<◌, ◌≤◌, List, [], ◌∷◌, ◌++◌, refl, ap, sym, ◌∙◌, arith, append_assoc, append-nil, eq-eqb, ne_eqb}
use Rattle.std.specs.Prelude.{◌==◌, if◌then◌else◌}
use Rattle.cs_modules.specs.Digits.{binary_digits, binary_digits_within}

step : (j n : ℕ) → binary_digits_within (suc j) n ≡ (48 + n % 2) ∷ (if n / 2 == 0 then [] else binary_digits_within j (n / 2))
unfolding binary_digits_within
step j n = refl

pub none_made : (n : ℕ) → [] ++ binary_digits_within (128 - 0) n ≡ binary_digits n
unfolding binary_digits
none_made n = refl

pub last_made : (items whole : List ℕ) (k n : ℕ) → k < 128 → items ++ binary_digits_within (128 - k) n ≡ whole → n / 2 ≡ 0 → items ++ (48 + n % 2) ∷ [] ≡ whole
last_made items whole k n below so_far none =
    let places : 128 - k ≡ suc (127 - k) = omega arith in
    let shape = ap (λ j. binary_digits_within j n) places ∙ step (127 - k) n in
    let here : binary_digits_within (128 - k) n ≡ (48 + n % 2) ∷ [] = shape ∙ ap (λ t. (48 + n % 2) ∷ (if t then [] else binary_digits_within (127 - k) (n / 2))) (eq-eqb (n / 2) 0 none) in
    ap (λ ds. items ++ ds) (sym here) ∙ so_far

pub one_more_made : (items whole : List ℕ) (k n : ℕ) → k < 128 → items ++ binary_digits_within (128 - k) n ≡ whole → (n / 2 ≡ 0 → ⊥) → (items ++ (48 + n % 2) ∷ []) ++ binary_digits_within (128 - (k + 1)) (n / 2) ≡ whole
one_more_made items whole k n below so_far some =
    let places : 128 - k ≡ suc (127 - k) = omega arith in
    let places' : 128 - (k + 1) ≡ 127 - k = omega arith in
    let shape = ap (λ j. binary_digits_within j n) places ∙ step (127 - k) n in
    let here : binary_digits_within (128 - k) n ≡ (48 + n % 2) ∷ binary_digits_within (127 - k) (n / 2) = shape ∙ ap (λ t. (48 + n % 2) ∷ (if t then [] else binary_digits_within (127 - k) (n / 2))) (ne_eqb (n / 2) 0 some) in
    append_assoc items ((48 + n % 2) ∷ []) (binary_digits_within (128 - (k + 1)) (n / 2))
    ∙ ap (λ j. items ++ (48 + n % 2) ∷ binary_digits_within j (n / 2)) places'
    ∙ ap (λ ds. items ++ ds) (sym here) ∙ so_far

pub all_made : (items whole : List ℕ) (k n : ℕ) → 128 ≤ k → items ++ binary_digits_within (128 - k) n ≡ whole → items ≡ whole
unfolding binary_digits_within
all_made items whole k n past so_far =
    let places : 128 - k ≡ 0 = omega arith in
    sym (append-nil items) ∙ sym (ap (λ j. items ++ binary_digits_within j n) places) ∙ so_far
