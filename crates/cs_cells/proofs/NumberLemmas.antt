-- Numbers and their digits in base 2.
use Rattle.std.proofs.Common.{◌≡◌, ℕ, zero, suc, ◌+◌, ◌-◌, ◌*◌, ◌/◌, ◌%◌, ◌^◌, ◌<◌, ◌==◌, inl, inr, Bool, true, false, List, [], ◌∷◌, ◌++◌, length, refl, arith, subst, ap, eq-eqb}
use Rattle.std.proofs.Math.Nat.{pow-succ'}
use Rattle.std.proofs.lemmas.Bool.{cases_eq}
use Rattle.std.proofs.lemmas.List.{append_assoc}
use Rattle.cs_cells.specs.Clauses.{bits_of}

-- a digit
abbrev pub digit : Bool → ℕ
digit true = 1
digit false = 0

-- the number of these digits, the lowest first
abbrev pub number_of : List Bool → ℕ
number_of [] = 0
number_of (bit ∷ bits) = digit bit + 2 * number_of bits

low_digit : (bit : Bool) (high : ℕ) → ((digit bit + 2 * high) % 2 == 1) ≡ bit
low_digit true high = eq-eqb ((1 + 2 * high) % 2) 1 (omega arith)
low_digit false high = let even : (0 + 2 * high) % 2 ≡ 0 = omega arith in rw even

high_digits : (bit : Bool) (high : ℕ) → (digit bit + 2 * high) / 2 ≡ high
high_digits true high = omega arith
high_digits false high = omega arith

pub bits_number : (bits : List Bool) → bits_of (length bits) (number_of bits) ≡ bits
bits_number [] = refl
bits_number (bit ∷ bits) =
    rw (low_digit bit (number_of bits), high_digits bit (number_of bits)) (ap (λ rest. bit ∷ rest) (bits_number bits))

pub number_below : (bits : List Bool) → number_of bits < 2 ^ length bits
number_below [] = omega arith
number_below (true ∷ bits) = let below = number_below bits in rw (pow-succ' 2 (length bits)) (omega arith)
number_below (false ∷ bits) = let below = number_below bits in rw (pow-succ' 2 (length bits)) (omega arith)

digit_of : (number : ℕ) → digit (number % 2 == 1) ≡ number % 2
digit_of number =
    elim (cases_eq (number % 2) 1) [
      | inl is ↦ rw is
      | inr differ ↦ let even : number % 2 ≡ 0 = omega arith in rw even
    ]

pub number_bits : (count number : ℕ) → number < 2 ^ count → number_of (bits_of count number) ≡ number
number_bits zero number below = omega arith
number_bits (suc count) number below =
    let below' : number < 2 * 2 ^ count = rw (pow-succ' 2 count) at below in
    let rest = number_bits count (number / 2) (omega arith) in
    rw (digit_of number, rest) (omega arith)

pub length_bits : (count number : ℕ) → length (bits_of count number) ≡ count
length_bits zero number = refl
length_bits (suc count) number = ap suc (length_bits count (number / 2))

-- one digit more
pub more_bits : (bits new : List Bool) (count counter rest number : ℕ) → new ≡ bits ++ (rest % 2 == 1) ∷ [] → counter < count
    → bits ++ bits_of (count - counter) rest ≡ bits_of count number
    → new ++ bits_of (count - (counter + 1)) (rest / 2) ≡ bits_of count number
more_bits bits new count counter rest number is within before =
    let one : count - counter ≡ suc (count - (counter + 1)) = omega arith in
    rw (is, append_assoc bits ((rest % 2 == 1) ∷ []) (bits_of (count - (counter + 1)) (rest / 2)))
    (subst (λ n. bits ++ bits_of n rest ≡ bits_of count number) one before)
