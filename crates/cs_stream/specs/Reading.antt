-- What a text says as a stimulus, and why it says none.
use Rattle.std.specs.Prelude.{ℕ, ◌+◌, ◌==◌, Bool, not, ◌||◌, List, [], ◌∷◌, length, map, position, Option, Some, None, if◌then◌else◌}
use Rattle.std.specs.Option.{option_map, option_or}
use Rattle.cs_stream.specs.declared.error.StimError.{StimError}
use Rattle.cs_stream.specs.declared.error.StimError.TheVariants.{Width, Character}
use Rattle.cs_stream.specs.Lines.{lines_of}

-- the character `0`
abbrev pub is_zero : ℕ → Bool
is_zero byte = byte == 48

-- the character `1`
abbrev pub is_one : ℕ → Bool
is_one byte = byte == 49

-- a byte other than `0` and `1`
abbrev pub is_other : ℕ → Bool
is_other byte = not (is_zero byte || is_one byte)

-- the fault of the line of this number: its length, or else its first byte other than `0` and `1`
abbrev pub line_fault : ℕ → ℕ → List ℕ → Option StimError
line_fault width number line =
    if length line == width
    then option_map (λ place. Character number (place + 1)) (position is_other line)
    else Some (Width number)

-- the fault of the first faulty line, where the lines are numbered from this number
abbrev pub first_fault : ℕ → ℕ → List (List ℕ) → Option StimError
first_fault width number [] = None
first_fault width number (line ∷ lines) =
    option_or (line_fault width number line) (first_fault width (number + 1) lines)

-- the fault of a text at a width, whose lines are numbered from 1
abbrev pub fault_of : ℕ → List ℕ → Option StimError
fault_of width bytes = first_fault width 1 (lines_of bytes)

-- the rows that a text says: one for each line, with a bit for each byte, true at `1`
abbrev pub stimulus_rows : List ℕ → List (List Bool)
stimulus_rows bytes = map (λ line. map is_one line) (lines_of bytes)
