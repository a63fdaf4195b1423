-- The images that a file gives are those of the netlist.
use Rattle.std.proofs.Common.{◌≡◌, ℕ, zero, suc, ◌+◌, ◌<◌, List, [], ◌∷◌, length, get_or, drop, map, Bool, true, false, not, ◌||◌, ◌==◌, bytes_eq, Option, Some, None, Ok, Err, option_map, refl, sym, ap, subst, ◌∙◌, arith}
use Rattle.std.specs.Prelude.{find, flat_map, if◌then◌else◌}
use Rattle.std.proofs.lemmas.List.{drop_more}
use Rattle.std.proofs.lemmas.List.Concat.{length-flat_map}
use Rattle.std.proofs.lemmas.List.Sums.{sum-map}
use Rattle.std.specs.List.{AllByRecursion, zip}
use Rattle.serde_json.specs.Data.{Data}
use Rattle.cs_json.specs.Walk.{Read}
use Rattle.cs_json.specs.declared.document.Datum.{Datum}
use Rattle.cs_cells.specs.Memories.{Words}
use Rattle.cs_modules.specs.Digits.{digits_of, is_one}
use Rattle.cs_modules.specs.Pins.{count_from}
use Rattle.cs_net.specs.Netlist.{Net}
use Rattle.cs_net.specs.declared.images.Images.{Images}
use Rattle.cs_net.specs.declared.state.MemoryWords.{MemoryWords}
use Rattle.cs_images.specs.declared.named.NamedImages.{NamedImages}
use Rattle.cs_images.specs.Images.{all_images, bit_count, image_bits, images_of}
use Rattle.cs_net.specs.Contexts.{AreImagesFor, AreImagesOf, IsImageOf}
use Rattle.cs_images.specs.Names.{first_faulty, is_among, is_faulty, memory_names}
use Rattle.cs_images.specs.Said.{HasOtherCount, NamesNoMemory, Says, checked, fault_of, reading, reading_of}
use Rattle.cs_images.specs.Shape.{written}
use Rattle.cs_images.proofs.NameLemmas.{found_passes_not}

length-map : {A B : Type 0} (f : A → B) (xs : List A) → length (map f xs) ≡ length xs
length-map f [] = refl
length-map f (x ∷ xs) = ap suc (length-map f xs)

length-counts : (from count : ℕ) → length (count_from from count) ≡ count
length-counts from zero = refl
length-counts from (suc count) = ap suc (length-counts (from + 1) count)

pub length-counted : {A : Type 0} (f : ℕ → A) (from count : ℕ) → length (map f (count_from from count)) ≡ count
length-counted f from count = length-map f (count_from from count) ∙ length-counts from count

-- so many bits as all words together have
pub as_many_bits : (words : Words) → length (flat_map (λ word. word) words) ≡ bit_count words
as_many_bits words = length-flat_map (λ word. word) words ∙ sym (sum-map length words)

-- an image has as many bits as the words
all_images_of : (words : Words) (texts : List Datum) → AllByRecursion (IsImageOf words) (map (image_bits words) texts)
all_images_of words [] = tt
all_images_of words (text ∷ texts) =
    (length-counted (is_one (digits_of text)) 0 (bit_count words), all_images_of words texts)

-- a name that isn't faulty has one text for each context
right_count : (among : Bool) (n c : ℕ) → (not among || not (n == c)) ≡ false → n ≡ c
right_count among n c h = grind arith

-- the images of a memory
images_right : (names : List (List ℕ)) (c : ℕ) (named : List NamedImages) (memory : MemoryWords)
    → first_faulty names c named ≡ None → AreImagesOf c memory (images_of named memory)
images_right names c named memory none = at (find (λ n. bytes_eq n.name memory.name) named) refl
  where
    at : (o : Option NamedImages) → find (λ n. bytes_eq n.name memory.name) named ≡ o
        → AreImagesOf c memory (option_map (λ (n : NamedImages). map (image_bits memory.words) n.texts) o)
    at None is = tt
    at (Some n) is = (
      length-map (image_bits memory.words) n.texts
          ∙ right_count (is_among names n.name) (length n.texts) c
          (found_passes_not (is_faulty names c) (λ n. bytes_eq n.name memory.name) named n none is),
      all_images_of memory.words n.texts,
    )

-- each memory with its own images
each_with_its_own : {A B : Type 0} (R : A → B → Type 0) (f : A → B) → ((x : A) → R x (f x)) → (xs : List A)
    → AllByRecursion (λ e. R e.0 e.1) (zip xs (map f xs))
each_with_its_own R f holds [] = tt
each_with_its_own R f holds (x ∷ xs) = (holds x, each_with_its_own R f holds xs)

pub are_images_for : (net : Net) (c : ℕ) (named : List NamedImages) → first_faulty (memory_names net.cells) c named ≡ None
    → AreImagesFor net c (all_images named net.memories)
are_images_for net c named none = record {
  count = length-map (images_of named) net.memories;
  each = each_with_its_own (AreImagesOf c) (images_of named)
      (λ memory. images_right (memory_names net.cells) c named memory none) net.memories;
}

-- ---- what bytes say

faulty_says_none : (memories : List (List ℕ)) (n : NamedImages) (images : Images) → fault_of memories n ≡ Says images → ⊥
faulty_says_none memories n images h = at (is_among memories n.name) h
  where
    at : (t : Bool)
        → (if t then HasOtherCount n.name (length n.texts) else NamesNoMemory n.name) ≡ Says images → ⊥
    at true h = absurd (cc)
    at false h = absurd (cc)

checked_images_for : (net : Net) (c : ℕ) (named : List NamedImages) (images : Images)
    → checked net named (first_faulty (memory_names net.cells) c named) ≡ Says images → AreImagesFor net c images
checked_images_for net c named images h = at (first_faulty (memory_names net.cells) c named) refl h
  where
    at : (o : Option NamedImages) → first_faulty (memory_names net.cells) c named ≡ o → checked net named o ≡ Says images
        → AreImagesFor net c images
    at None none h =
        let same : all_images named net.memories ≡ images = cc in
        subst (AreImagesFor net c) same (are_images_for net c named none)
    at (Some n) is h = absurd (faulty_says_none (memory_names net.cells) n images h)

written_images_for : (net : Net) (c : ℕ) (read : Read (List NamedImages)) (images : Images)
    → reading_of net c read ≡ Says images → AreImagesFor net c images
written_images_for net c (Ok named) images h = checked_images_for net c named images h
written_images_for net c (Err path) images h = absurd (cc)

pub said_images_for : (net : Net) (c : ℕ) (o : Option Data) (images : Images) → reading net c o ≡ Says images
    → AreImagesFor net c images
said_images_for net c None images h = absurd (cc)
said_images_for net c (Some d) images h = written_images_for net c (written d) images h
