-- Rows as text.
use Rattle.std.specs.Prelude.{ℕ, Bool, List, [], ◌∷◌, ◌++◌, map, flat_map, if◌then◌else◌}

-- the characters `0` and `1`
abbrev pub bit_byte : Bool → ℕ
bit_byte bit = if bit then 49 else 48

-- a row's line, with its newline
abbrev pub row_text : List Bool → List ℕ
row_text row = map bit_byte row ++ 10 ∷ []

-- the line of each row
abbrev pub response_text : List (List Bool) → List ℕ
response_text rows = flat_map row_text rows
