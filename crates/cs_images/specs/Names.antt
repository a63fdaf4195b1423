-- Names and where they stand, those of memory cells, and the first name of a file that is at fault.
use Rattle.std.specs.Prelude.{ℕ, List, length, map, filter, Bool, not, ◌||◌, ◌==◌, bytes_eq, find, Option}
use Rattle.std.specs.List.{list_any, position_from}
use Rattle.cs_modules.specs.Modules.{is_memory}
use Rattle.cs_net.specs.declared.netlist.Cell.{Cell}
use Rattle.cs_images.specs.declared.named.NamedImages.{NamedImages}

-- the first place of a name, from 0
abbrev pub place_of : List ℕ → List (List ℕ) → Option ℕ
place_of name names = position_from (λ n. bytes_eq n name) 0 names

-- a name is among some names
abbrev pub is_among : List (List ℕ) → List ℕ → Bool
is_among names name = list_any (λ n. bytes_eq n name) names

-- the names of the cells that are memories
abbrev pub memory_names : List Cell → List (List ℕ)
memory_names cells = map (λ c. c.name) (filter (λ c. is_memory c.class) cells)

-- it is the name of no memory cell, or it has another number of images than there are contexts
abbrev pub is_faulty : List (List ℕ) → ℕ → NamedImages → Bool
is_faulty memories c n = not (is_among memories n.name) || not (length n.texts == c)

-- the first such name
abbrev pub first_faulty : List (List ℕ) → ℕ → List NamedImages → Option NamedImages
first_faulty memories c images = find (is_faulty memories c) images
