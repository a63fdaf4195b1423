-- Bits that stand for words of one width.
use Rattle.std.specs.Prelude.{ℕ, zero, suc, ◌+◌, ◌*◌, List, [], ◌∷◌, Bool, map, take, drop, length, slice_range}
use Rattle.std.specs.List.{enumerate_from}
use Rattle.cs_cells.specs.Memories.{Words}

-- so many words of a width, of these bits: each has the next of them
abbrev pub words_in : ℕ → ℕ → List Bool → Words
words_in zero width bits = []
words_in (suc count) width bits = take width bits ∷ words_in count width (drop width bits)

-- an image cut into words as these are: word i has the bits from i times its width on
abbrev pub image_words : Words → List Bool → Words
image_words words image =
    map (λ e. slice_range image (e.0 * length e.1) (e.0 * length e.1 + length e.1)) (enumerate_from 0 words)
