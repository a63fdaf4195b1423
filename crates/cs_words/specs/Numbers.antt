-- Numbers as words: 1 to 20 decimal digits, where zeros may lead.
use Rattle.std.specs.Prelude.{ℕ, ◌+◌, ◌-◌, ◌*◌, Bool, ◌&&◌, nat_le, List, [], ◌∷◌, length, Option, Some, None, if◌then◌else◌, option_and_then}
use Rattle.std.specs.List.{list_all}

abbrev pub is_digit : ℕ → Bool
is_digit byte = nat_le 48 byte && nat_le byte 57

abbrev pub are_digits : List ℕ → Bool
are_digits word = list_all is_digit word

-- the value of digits behind others that have a value
abbrev pub value_behind : ℕ → List ℕ → ℕ
value_behind value [] = value
value_behind value (digit ∷ word) = value_behind (value * 10 + (digit - 48)) word

abbrev pub value_of : List ℕ → ℕ
value_of word = value_behind 0 word

abbrev pub is_number : List ℕ → Bool
is_number word = nat_le 1 (length word) && nat_le (length word) 20 && are_digits word

-- the number that a word stands for, if it is one
abbrev pub number_of : List ℕ → Option ℕ
number_of word = if is_number word then Some (value_of word) else None

-- so many contexts, if there may be so many
abbrev pub within_contexts : ℕ → Option ℕ
within_contexts count = if nat_le 1 count && nat_le count 16 then Some count else None

abbrev pub contexts_of : List ℕ → Option ℕ
contexts_of word = option_and_then within_contexts (number_of word)
