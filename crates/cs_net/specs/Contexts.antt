-- The starts of contexts: each memory cell that the images name starts with the context's image.
use Rattle.std.specs.Prelude.{◌≡◌, ℕ, List, [], ◌∷◌, Bool, Option, Some, None, map, slice_index_or, length, sum, ⊤}
use Rattle.std.specs.List.{AllByRecursion, zip}
use Rattle.cs_cells.specs.Memories.{Words}
use Rattle.cs_modules.specs.Words.{image_words}
use Rattle.cs_net.specs.declared.images.Images.{Images}
use Rattle.cs_net.specs.declared.state.MemoryWords.{MemoryWords}
use Rattle.cs_net.specs.declared.state.Snapshot.{Snapshot}
use Rattle.cs_net.specs.Netlist.{Net, NetState, state_of}
use Rattle.cs_net.specs.Drivers.{own_start}

-- the bits of an image, least significant bit of word 0 first
abbrev pub Image : Type 0
Image = List Bool

-- it has as many bits as these words together
abbrev pub IsImageOf : Words → Image → Type 0
IsImageOf words image = length image ≡ sum (map length words)

-- where the images name a memory, they have an image of it for each of c contexts
abbrev pub AreImagesOf : ℕ → MemoryWords → Option (List Image) → Type 0
AreImagesOf c memory None = ⊤
AreImagesOf c memory (Some images) = (length images ≡ c) × AllByRecursion (IsImageOf memory.words) images

-- the images are those of this netlist and c contexts: one entry for each memory in order
pub record AreImagesFor (net : Net) (c : ℕ) (images : Images) : Type 0 where
  pub count : length images.of ≡ length net.memories
  pub each : AllByRecursion (λ e. AreImagesOf c e.0 e.1) (zip net.memories images.of)

-- a memory with its image k, where the images name it
abbrev pub with_image : ℕ → MemoryWords → Option (List Image) → MemoryWords
with_image k memory None = memory
with_image k memory (Some images) =
    record { name = memory.name; words = image_words memory.words (slice_index_or images k []) }

-- the same for the memories in order, with one entry for each
abbrev pub with_images : ℕ → List MemoryWords → List (Option (List Image)) → List MemoryWords
with_images k [] entries = []
with_images k (memory ∷ memories) [] = memory ∷ memories
with_images k (memory ∷ memories) (entry ∷ entries) = with_image k memory entry ∷ with_images k memories entries

-- images that name no memory
abbrev pub no_images : Net → Images
no_images net = record { of = map (λ m. None) net.memories }

-- the netlist that has the starts of context k for its own
abbrev pub of_context : Net → Images → ℕ → Net
of_context net images k = record net { memories = with_images k net.memories images.of }

-- the netlist's own start, with the images of context k
abbrev pub context_start : Net → Images → ℕ → Snapshot
context_start net images k =
    record { bits = (own_start net).bits; memories = with_images k (own_start net).memories images.of }

-- the start of context k
abbrev pub start_of : Net → Images → ℕ → NetState
start_of net images k = state_of (context_start net images k)
