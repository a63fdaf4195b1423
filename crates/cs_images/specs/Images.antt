-- The images of a netlist's memories.
use Rattle.std.specs.Prelude.{ℕ, ◌+◌, ◌*◌, List, length, map, sum, bytes_eq, find, Option, option_map}
use Rattle.cs_json.specs.declared.document.Datum.{Datum}
use Rattle.cs_cells.specs.Memories.{Words}
use Rattle.cs_modules.specs.Digits.{digits_of, is_one}
use Rattle.cs_modules.specs.Pins.{count_from}
use Rattle.cs_net.specs.Contexts.{Image}
use Rattle.cs_net.specs.declared.images.Images.{Images}
use Rattle.cs_net.specs.declared.state.MemoryWords.{MemoryWords}
use Rattle.cs_images.specs.declared.named.NamedImages.{NamedImages}

-- the number of bits in some words
abbrev pub bit_count : Words → ℕ
bit_count words = sum (map length words)

-- the bits of a text for these words: bit i is digit i, 0 where that is missing; digits past the last bit say nothing
abbrev pub image_bits : Words → Datum → Image
image_bits words text = map (is_one (digits_of text)) (count_from 0 (bit_count words))

-- the words of some digits: word i has those from i times the width on
abbrev pub words_of_digits : List ℕ → ℕ → ℕ → Words
words_of_digits digits width count =
    map (λ i. map (λ j. is_one digits (i * width + j)) (count_from 0 width)) (count_from 0 count)

-- the images of a memory, one for each of its texts, and none where it isn't named
abbrev pub images_of : List NamedImages → MemoryWords → Option (List Image)
images_of named memory =
    option_map (λ n. map (image_bits memory.words) n.texts) (find (λ n. bytes_eq n.name memory.name) named)

-- those of all memories, in order
abbrev pub all_images : List NamedImages → List MemoryWords → Images
all_images named memories = record { of = map (images_of named) memories }
