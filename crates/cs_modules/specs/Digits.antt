-- Attributes and parameters as lists of digits, least significant first (Yosys JSON, in this project's profile).
use Rattle.std.specs.Prelude.{ℕ, zero, suc, ◌+◌, ◌-◌, ◌/◌, ◌%◌, ◌^◌, pos, negsuc, ℤ, List, [], ◌∷◌, reverse, filter, get_or, map, Bool, true, false, not, ◌&&◌, nat_le, nat_lt, ◌==◌, if◌then◌else◌, bytes_eq, Option, Some, None, find, option_map, unwrap_or}
use Rattle.std.specs.List.{list_any}
use Rattle.cs_json.specs.declared.document.Datum.{Datum}
use Rattle.cs_json.specs.declared.document.Datum.TheVariants.{Digits, Number}
use Rattle.cs_json.specs.declared.document.Entry.{Entry}
use Rattle.cs_cells.specs.Memories.{number_of}

-- a negative number stands for its 32 bits in two's complement
abbrev pub pattern_of : ℤ → ℕ
pattern_of (pos n) = n
pattern_of (negsuc n) = 2 ^ 32 - (n + 1)

-- the binary digits of a number below 2 ^ k, least first; 0 has the one digit `0`
unfoldable pub binary_digits_within : ℕ → ℕ → List ℕ
binary_digits_within zero n = []
binary_digits_within (suc k) n = (48 + n % 2) ∷ (if n / 2 == 0 then [] else binary_digits_within k (n / 2))

-- the same of a number of at most 128 bits
unfoldable pub binary_digits : ℕ → List ℕ
binary_digits n = binary_digits_within 128 n

-- a byte that continues a character in UTF-8
abbrev pub is_continuation : ℕ → Bool
is_continuation b = nat_le 128 b && nat_lt b 192

-- the characters of a text, the last first, each told by its first byte: `0` and `1` are one byte
abbrev pub characters_reversed : List ℕ → List ℕ
characters_reversed text = filter (λ b. not (is_continuation b)) (reverse text)

-- the digits of a datum: a text has its last character as the least, and a number its binary digits
abbrev pub digits_of : Datum → List ℕ
digits_of (Digits text) = characters_reversed text
digits_of (Number z) = binary_digits (pattern_of z)

-- the value of the attribute or parameter of a name
abbrev pub datum_at : List ℕ → List Entry → Option Datum
datum_at name entries = option_map (λ e. e.datum) (find (λ e. bytes_eq e.name name) entries)

-- its digits, and none where it is missing
abbrev pub digits_at : List ℕ → List Entry → List ℕ
digits_at name entries = unwrap_or (option_map digits_of (datum_at name entries)) []

-- digit i of a parameter: every character other than `1` counts as 0, and so does a missing digit
abbrev pub is_one : List ℕ → ℕ → Bool
is_one ds i = get_or ds i 0 == 49

-- the number that a parameter's digits spell
abbrev pub value_of : List ℕ → ℕ
value_of ds = number_of (map (λ d. d == 49) ds)

-- a parameter other than 0
abbrev pub is_nonzero : List ℕ → Bool
is_nonzero ds = list_any (λ d. d == 49) ds

-- digit i of an `init`: a character other than `0` and `1` says nothing of its bit, nor does a missing digit
abbrev pub init_digit : List ℕ → ℕ → Option Bool
init_digit ds i =
    if get_or ds i 0 == 49 then Some true
    else (if get_or ds i 0 == 48 then Some false else None)
