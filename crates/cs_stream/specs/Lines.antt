-- The lines of a text.
use Rattle.std.specs.Prelude.{ℕ, ◌==◌, Bool, List, [], ◌∷◌, if◌then◌else◌}
use Rattle.std.specs.List.{onto_first}

-- the newline, which ends a line
abbrev pub is_newline : ℕ → Bool
is_newline byte = byte == 10

-- the lines, each without its newline; what follows the last newline is a line where it isn't empty
abbrev pub lines_of : List ℕ → List (List ℕ)
lines_of [] = []
lines_of (byte ∷ bytes) = if is_newline byte then [] ∷ lines_of bytes else onto_first byte (lines_of bytes)
