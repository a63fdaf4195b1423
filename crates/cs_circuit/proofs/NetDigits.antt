-- Texts of digits are read back: the bits that were written, and the number that they spell.
use Rattle.std.proofs.Common.{◌≡◌, ℕ, zero, suc, ◌*◌, ◌/◌, ◌%◌, ◌^◌, ◌<◌, ◌==◌, List, [], ◌∷◌, map, get_or, filter, reverse, replicate, not, Bool, true, false, if◌then◌else◌, inl, inr, refl, ap, ◌∙◌, arith}
use Rattle.std.proofs.Math.Nat.{pow-succ'}
use Rattle.std.proofs.lemmas.Bool.{cases_eq}
use Rattle.std.proofs.lemmas.List.{reverse-reverse}
use Rattle.cs_cells.specs.Memories.{number_of}
use Rattle.cs_modules.specs.Digits.{characters_reversed, is_continuation, is_one, value_of}
use Rattle.cs_circuit.specs.Cells.{digit}
use Rattle.cs_circuit.specs.MemoryCells.{bits_of_number, digits_text, number_text, same_digits, some_digits}

-- the digits of some bits, one 0 where there are none
abbrev pub digits_of_bits : List Bool → List ℕ
digits_of_bits [] = 48 ∷ []
digits_of_bits (b ∷ bits) = map digit (b ∷ bits)

whole_characters : (bits : List Bool)
    → filter (λ b. not (is_continuation b)) (map digit bits) ≡ map digit bits
whole_characters [] = refl
whole_characters (true ∷ bits) = ap (λ rest. 49 ∷ rest) (whole_characters bits)
whole_characters (false ∷ bits) = ap (λ rest. 48 ∷ rest) (whole_characters bits)

some_kept : (x : ℕ) (xs ds : List ℕ) → reverse ds ≡ x ∷ xs → some_digits ds ≡ ds
some_kept x xs [] is = cc
some_kept x xs (d ∷ ds) is = refl

-- a text of digits is read, least first, as the digits of its bits
pub digits_read : (bits : List Bool) → characters_reversed (digits_text bits) ≡ digits_of_bits bits
digits_read [] = refl
digits_read (b ∷ bits) =
    let digits = map digit (b ∷ bits) in
    ap characters_reversed
    (some_kept (digit b) (map digit bits) (reverse digits) (reverse-reverse digits))
    ∙ ap (filter (λ b. not (is_continuation b))) (reverse-reverse digits)
    ∙ whole_characters (b ∷ bits)

one_of_digits : (bits : List Bool) (i : ℕ) → is_one (map digit bits) i ≡ get_or bits i false
one_of_digits [] i = refl
one_of_digits (true ∷ bits) zero = refl
one_of_digits (false ∷ bits) zero = refl
one_of_digits (b ∷ bits) (suc i) = one_of_digits bits i

one_of_bits : (bits : List Bool) (i : ℕ) → is_one (digits_of_bits bits) i ≡ get_or bits i false
one_of_bits [] zero = refl
one_of_bits [] (suc i) = refl
one_of_bits (b ∷ bits) i = one_of_digits (b ∷ bits) i

-- digit i of the text is bit i
pub bit_read : (bits : List Bool) (i : ℕ)
    → is_one (characters_reversed (digits_text bits)) i ≡ get_or bits i false
bit_read bits i = ap (λ ds. is_one ds i) (digits_read bits) ∙ one_of_bits bits i

all_zero : (count i : ℕ) → get_or (replicate count false) i false ≡ false
all_zero zero i = refl
all_zero (suc count) zero = refl
all_zero (suc count) (suc i) = all_zero count i

-- of digits that are all 0 each is 0
pub zero_read : (count i : ℕ) → is_one (characters_reversed (same_digits count false)) i ≡ false
zero_read count i = bit_read (replicate count false) i ∙ all_zero count i

ones_of_digits : (bits : List Bool) → map (λ d. d == 49) (map digit bits) ≡ bits
ones_of_digits [] = refl
ones_of_digits (true ∷ bits) = ap (λ rest. true ∷ rest) (ones_of_digits bits)
ones_of_digits (false ∷ bits) = ap (λ rest. false ∷ rest) (ones_of_digits bits)

value_of_bits : (bits : List Bool) → value_of (digits_of_bits bits) ≡ number_of bits
value_of_bits [] = refl
value_of_bits (b ∷ bits) = ap number_of (ones_of_digits (b ∷ bits))

low_bit : (n : ℕ) → (if n % 2 == 1 then 1 else 0) ≡ n % 2
low_bit n = elim (cases_eq (n % 2) 1) [
  | inl is ↦ rw is
  | inr differ ↦ let even : n % 2 ≡ 0 = omega arith in rw even
]

-- so many bits of a number that fits spell it
number_by_bits : (count n : ℕ) → n < 2 ^ count → number_of (bits_of_number count n) ≡ n
unfolding bits_of_number
number_by_bits zero n below = omega arith
number_by_bits (suc count) n below =
    let below' : n < 2 * 2 ^ count = rw (pow-succ' 2 count) at below in
    let rest = number_by_bits count (n / 2) (omega arith) in
    rw (low_bit n, rest) (omega arith)

value_by_bits : (count n : ℕ) → n < 2 ^ count
    → value_of (characters_reversed (digits_text (bits_of_number count n))) ≡ n
value_by_bits count n below =
    ap value_of (digits_read (bits_of_number count n)) ∙ value_of_bits (bits_of_number count n)
    ∙ number_by_bits count n below

-- a number of at most 32 bits is read back
pub number_read : (n : ℕ) → n < 2 ^ 32 → value_of (characters_reversed (number_text n)) ≡ n
number_read n below = value_by_bits 32 n below
