-- The rows of a stimulus.
use Rattle.std.specs.Prelude.{ℕ, zero, suc, Bool, List, [], ◌∷◌, take, drop}
use Rattle.cs_stream.specs.declared.stimulus.Stimulus.{Stimulus}

-- so many rows of a width, cut off the bits one by one
abbrev pub rows_within : ℕ → ℕ → List Bool → List (List Bool)
rows_within zero width bits = []
rows_within (suc count) width bits = take width bits ∷ rows_within count width (drop width bits)

-- the rows, each a list of its bits
abbrev pub rows_of : Stimulus → List (List Bool)
rows_of rows = rows_within rows.count rows.width rows.bits
