-- What the digits of a written parameter say.
use Rattle.std.proofs.Common.{◌≡◌, ℕ, zero, suc, ◌+◌, ◌*◌, ◌/◌, ◌%◌, ◌<◌, ◌^◌, List, [], ◌∷◌, map, length, get_or, reverse, Bool, true, false, not, refl, sym, ap, ap₂, ◌∙◌, arith, eqb-true}
use Rattle.std.specs.Prelude.{filter, replicate, ◌==◌, if◌then◌else◌}
use Rattle.std.specs.List.{AllByRecursion, list_all}
use Rattle.std.proofs.lemmas.List.{length-reverse, get_or-replicate, reverse-reverse}
use Rattle.cs_cells.specs.Memories.{number_of}
use Rattle.cs_conditions.specs.Conditions.{are_one, are_zero}
use Rattle.cs_modules.specs.Digits.{characters_reversed, is_continuation, is_nonzero, is_one, value_of}
use Rattle.cs_modules.specs.Pins.{count_from}
use Rattle.cs_circuit.specs.Cells.{digit}
use Rattle.cs_circuit.specs.MemoryCells.{bits_of_number, digits_text, number_text, same_digits, some_digits}

-- ---- the digits of a text, least first

-- digits are one byte each
digits_kept : (bits : List Bool) → filter (λ b. not (is_continuation b)) (map digit bits) ≡ map digit bits
digits_kept [] = refl
digits_kept (true ∷ bits) = ap (λ ds. 49 ∷ ds) (digits_kept bits)
digits_kept (false ∷ bits) = ap (λ ds. 48 ∷ ds) (digits_kept bits)

some_alone : (ds : List ℕ) → (length ds ≡ 0 → ⊥) → some_digits ds ≡ ds
some_alone [] some = absurd (some refl)
some_alone (d ∷ ds) some = refl

pub digits_back : (bits : List Bool) → characters_reversed (digits_text bits) ≡ some_digits (map digit bits)
digits_back [] = refl
digits_back (bit ∷ bits) =
    let ds = map digit (bit ∷ bits) in
    let long : length (reverse ds) ≡ length ds = length-reverse ds in
    ap characters_reversed (some_alone (reverse ds) (λ none. absurd (omega arith)))
    ∙ ap (filter (λ b. not (is_continuation b))) (reverse-reverse ds) ∙ digits_kept (bit ∷ bits)

-- ---- bits

digit_is : (bit : Bool) → (digit bit == 49) ≡ bit
digit_is true = refl
digit_is false = refl

bit_in : (bits : List Bool) (i : ℕ) → is_one (map digit bits) i ≡ get_or bits i false
bit_in [] i = refl
bit_in (bit ∷ bits) zero = digit_is bit
bit_in (bit ∷ bits) (suc i) = bit_in bits i

pub bit_of_digits : (bits : List Bool) (i : ℕ) → is_one
    (characters_reversed (digits_text bits)) i ≡ get_or bits i false
bit_of_digits bits i = ap (λ ds. is_one ds i) (digits_back bits) ∙ by_bits bits i
  where
    by_bits : (bits : List Bool) (i : ℕ) → is_one (some_digits (map digit bits)) i ≡ get_or bits i false
    by_bits [] zero = refl
    by_bits [] (suc i) = refl
    by_bits (bit ∷ bits) i = bit_in (bit ∷ bits) i

-- digits that are all 0
pub zero_digit : (count i : ℕ) → is_one (characters_reversed (same_digits count false)) i ≡ false
zero_digit count i = bit_of_digits (replicate count false) i ∙ none count i
  where
    none : (count i : ℕ) → get_or (replicate count false) i false ≡ false
    none zero i = refl
    none (suc count) zero = refl
    none (suc count) (suc i) = none count i

-- digits that are all alike
pub same_digit : (count i : ℕ) (b : Bool) → i < count → is_one (characters_reversed (same_digits count b)) i ≡ b
same_digit count i b below =
    bit_of_digits (replicate count b) i ∙ get_or-replicate count i b false below

-- ---- numbers

tested : (bits : List Bool) → map (λ d. d == 49) (map digit bits) ≡ bits
tested [] = refl
tested (bit ∷ bits) = ap₂ (λ b bs. b ∷ bs) (digit_is bit) (tested bits)

number_back : (bits : List Bool) → value_of (characters_reversed (digits_text bits)) ≡ number_of bits
number_back bits = ap value_of (digits_back bits) ∙ by_bits bits
  where
    by_bits : (bits : List Bool) → value_of (some_digits (map digit bits)) ≡ number_of bits
    by_bits [] = refl
    by_bits (bit ∷ bits) = ap number_of (tested (bit ∷ bits))

low_bit : (n : ℕ) (b : Bool) → (n % 2 == 1) ≡ b → (if b then 1 else 0) ≡ n % 2
low_bit n true is = sym (eqb-true (n % 2) 1 is)
low_bit n false is = by_rest (n % 2) (omega arith) is
  where
    by_rest : (r : ℕ) → r < 2 → (r == 1) ≡ false → 0 ≡ r
    by_rest zero less other = refl
    by_rest (suc zero) less other = absurd (cc)
    by_rest (suc (suc r)) less other = absurd (omega arith)

number_of_bits : (count n : ℕ) → n < 2 ^ count → number_of (bits_of_number count n) ≡ n
unfolding bits_of_number
number_of_bits zero n small = omega arith
number_of_bits (suc count) n small =
    let double : 2 ^ suc count ≡ 2 * 2 ^ count = omega arith in
    let rest = number_of_bits count (n / 2) (omega arith) in
    let low = low_bit n (n % 2 == 1) refl in
    ap₂ (λ a b. a + 2 * b) low rest ∙ omega arith

pub number_of_text : (n : ℕ) → n < 2 ^ 32 → value_of (characters_reversed (number_text n)) ≡ n
number_of_text n small = number_back (bits_of_number 32 n) ∙ number_of_bits 32 n small

pub zero_text : is_nonzero (characters_reversed (number_text 0)) ≡ false
unfolding bits_of_number
zero_text = refl

-- ---- rules on digits

all_counted : (P : ℕ → Type 0) (from count : ℕ) → ((i : ℕ) → i < from + count → P i) → AllByRecursion P
    (count_from from count)
all_counted P from zero each = tt
all_counted P from (suc count) each =
    (each from (omega arith), all_counted P (from + 1) count (λ i below. each i (omega arith)))

all_true : {A : Type 0} (test : A → Bool) (xs : List A) → AllByRecursion (λ x. test x ≡ true) xs
    → list_all test xs ≡ true
all_true test [] h = refl
all_true test (x ∷ xs) h = rw h.0 (all_true test xs h.1)

pub zero_digits : (size count : ℕ) → are_zero (characters_reversed (same_digits size false)) count ≡ true
zero_digits size count =
    all_true (λ i. not (is_one (characters_reversed (same_digits size false)) i)) (count_from 0 count)
    (all_counted (λ i. not (is_one (characters_reversed (same_digits size false)) i) ≡ true) 0 count
    (λ i below. ap not (zero_digit size i)))

pub one_digits : (count : ℕ) → are_one (characters_reversed (same_digits count true)) count ≡ true
one_digits count =
    all_true (is_one (characters_reversed (same_digits count true))) (count_from 0 count)
    (all_counted (λ i. is_one (characters_reversed (same_digits count true)) i ≡ true) 0 count
    (λ i below. same_digit count i true (omega arith)))
