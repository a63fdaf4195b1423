-- How many words each memory of a netlist starts with and how wide they are, and that its images can be cut into such.
use Rattle.std.proofs.Common.{◌≡◌, ◌∙◌, ℕ, zero, suc, ◌+◌, ◌-◌, ◌*◌, ◌<◌, ◌≤◌, List, [], ◌∷◌, Option, Some, None, ap, ap₂, arith, codes, drop, filter_map, get_or, length, map, replicate, refl, subst, sym, take}
use Rattle.std.specs.Prelude.{slice_get, slice_index_or, slice_range}
use Rattle.std.specs.List.{AllByRecursion, cons_option, enumerate_from, sum_by, zip}
use Rattle.std.proofs.lemmas.List.{length-drop, length-map, length-take-le}
use Rattle.std.proofs.lemmas.List.Sums.{sum-map, sum_by-cons}
use Rattle.cs_cells.specs.declared.class.Class.{Class}
use Rattle.cs_cells.specs.declared.class.Class.TheVariants.{Gate, Register, Memory, Scope, Asynchronous, NotFine, Unknown}
use Rattle.cs_cells.specs.declared.memory.MemShape.{MemShape}
use Rattle.cs_cells.specs.Memories.{Words, word_count}
use Rattle.cs_json.specs.declared.document.CellDecl.{CellDecl}
use Rattle.cs_modules.specs.Memories.{digits_part, memory_shape, shape_by, shape_of, shapes_in}
use Rattle.cs_modules.specs.Modules.{cells_of}
use Rattle.cs_modules.specs.Pins.{class_at, count_from}
use Rattle.cs_net.specs.declared.images.Images.{Images}
use Rattle.cs_net.specs.declared.state.MemoryWords.{MemoryWords}
use Rattle.cs_net.specs.Build.{net_of, words_by}
use Rattle.cs_modules.specs.Words.{image_words}
use Rattle.cs_net.specs.Contexts.{AreImagesFor, AreImagesOf, Image, IsImageOf, no_images, with_image, with_images}
use Rattle.cs_net.specs.Invariant.{AreAlike, IsWellFormed, size_of}
use Rattle.cs_net.specs.Netlist.{Net}
use Rattle.cs_net.proofs.PinWidths.{length-count_from}

-- ---- of a module

-- so many words, each so wide
abbrev widths_of : MemShape → List ℕ
widths_of shape = replicate (word_count shape) shape.width

abbrev lengths_of : List MemoryWords → List (List ℕ)
lengths_of ms = map (λ (m : MemoryWords). map length m.words) ms

all_wide : {A : Type 0} (f : ℕ → List A) (width from count : ℕ) → ((i : ℕ) → length (f i) ≡ width)
    → map length (map f (count_from from count)) ≡ replicate count width
all_wide f width from zero each = refl
all_wide f width from (suc count) each = ap₂ (λ n ns. n ∷ ns) (each from) (all_wide f width (from + 1) count each)

digits_wide : (d : CellDecl) (width i : ℕ) → length (digits_part d (codes "INIT") width i) ≡ width
digits_wide d width i = length-map (count_from 0 width) _ ∙ length-count_from 0 width

decls_wide : (ds : List CellDecl)
    → lengths_of (filter_map (λ d. words_by (class_at d) d) ds) ≡ map widths_of (shapes_in (map shape_of ds))
decls_wide [] = refl
decls_wide (d ∷ ds) = by (class_at d) (decls_wide ds)
  where
    by : (k : Class)
        → lengths_of (filter_map (λ d. words_by (class_at d) d) ds) ≡ map widths_of (shapes_in (map shape_of ds))
        → lengths_of (cons_option (words_by k d) (filter_map (λ d. words_by (class_at d) d) ds))
        ≡ map widths_of (shapes_in (shape_by k d ∷ map shape_of ds))
    by (Gate kind) rest = rest
    by (Register kind) rest = rest
    by Memory rest =
        let shape = memory_shape d in
        ap₂ (λ n ns. n ∷ ns)
        (all_wide (digits_part d (codes "INIT") shape.width) shape.width 0 (word_count shape) (digits_wide d shape.width))
        rest
    by Scope rest = rest
    by Asynchronous rest = rest
    by NotFine rest = rest
    by Unknown rest = rest

-- ---- of a netlist

lengths_alike : (old new : List MemoryWords) → AreAlike old new → lengths_of old ≡ lengths_of new
lengths_alike old new same = seconds old ∙ ap (map (λ (size : List ℕ × List ℕ). size.1)) same ∙ sym (seconds new)
  where
    seconds : (ms : List MemoryWords) → lengths_of ms ≡ map (λ (size : List ℕ × List ℕ). size.1) (map size_of ms)
    seconds [] = refl
    seconds (m ∷ ms) = ap (λ ns. map length m.words ∷ ns) (seconds ms)

pub memories_wide : (net : Net) → IsWellFormed net → lengths_of net.memories ≡ map widths_of (shapes_in net.shapes)
unfolding net_of
memories_wide net w =
    sym (lengths_alike (net_of w.«module»).memories net.memories w.memories)
    ∙ subst (λ (n : Net). lengths_of (net_of w.«module»).memories ≡ map widths_of (shapes_in n.shapes)) (sym w.is)
    (decls_wide (cells_of w.«module»))

-- memory i is that of shape i
at_place : (ms : List MemoryWords) (shapes : List MemShape) → lengths_of ms ≡ map widths_of shapes
    → (i : ℕ) (shape : MemShape) (memory : MemoryWords) → slice_get shapes i ≡ Some shape → slice_get ms i ≡ Some memory
    → map length memory.words ≡ replicate (word_count shape) shape.width
at_place [] shapes same i shape memory is at = absurd (cc)
at_place (m ∷ ms) [] same i shape memory is at = absurd (cc)
at_place (m ∷ ms) (s ∷ shapes) same zero shape memory is at =
    let here : s ≡ shape = cc in
    let here_too : m ≡ memory = cc in
    let first : map length m.words ≡ widths_of s = cc in
    subst (λ (x : MemoryWords). map length x.words ≡ widths_of shape) here_too
    (subst (λ x. map length m.words ≡ widths_of x) here first)
at_place (m ∷ ms) (s ∷ shapes) same (suc i) shape memory is at =
    let rest : lengths_of ms ≡ map widths_of shapes = cc in
    at_place ms shapes rest i shape memory is at

pub memory_wide : (net : Net) → IsWellFormed net
    → (i : ℕ) (shape : MemShape) (memory : MemoryWords) → slice_get (shapes_in net.shapes) i ≡ Some shape
    → slice_get net.memories i ≡ Some memory
    → map length memory.words ≡ replicate (word_count shape) shape.width
memory_wide net w = at_place net.memories (shapes_in net.shapes) (memories_wide net w)

-- ---- images

-- images that name no memory are right
pub none_fit : (net : Net) (c : ℕ) → AreImagesFor net c (no_images net)
none_fit net c = record { count = length-map net.memories _; each = unnamed net.memories }
  where
    unnamed : (ms : List MemoryWords) → AllByRecursion (λ e. AreImagesOf c e.0 e.1) (zip ms (map (λ m. None) ms))
    unnamed [] = tt
    unnamed (m ∷ ms) = (tt, unnamed ms)

-- a part within a list is as long as it says
part_long : (image : Image) (a width : ℕ) → a + width ≤ length image → length (slice_range image a (a + width)) ≡ width
part_long image a width within =
    let size : a + width - a ≡ width = omega arith in
    let left = length-drop a image in
    ap (λ n. length (take n (drop a image))) size ∙ length-take-le width (drop a image) (omega arith)

-- the words so far, and those of the rest, are as long as they were
cut_wide : (image : Image) (count width i : ℕ) (words : Words) → map length words ≡ replicate count width
    → i * width + sum_by length words ≤ length image
    → map length (map (λ e. slice_range image (e.0 * length e.1) (e.0 * length e.1 + length e.1)) (enumerate_from i words))
    ≡ map length words
cut_wide image count width i [] same within = refl
cut_wide image zero width i (word ∷ words) same within = absurd (cc)
cut_wide image (suc count) width i (word ∷ words) same within =
    let first : length word ≡ width = cc in
    let rest : map length words ≡ replicate count width = cc in
    let start : i * length word ≡ i * width = ap (λ n. i * n) first in
    let next : (i + 1) * width ≡ i * width + width = omega arith in
    let all = sum_by-cons length word words in
    ap₂ (λ n ns. n ∷ ns) (part_long image (i * length word) (length word) (omega arith))
    (cut_wide image count width (i + 1) words rest (omega arith))

image_wide : (image : Image) (count width : ℕ) (words : Words) → map length words ≡ replicate count width
    → IsImageOf words image → map length (image_words words image) ≡ map length words
image_wide image count width words same is =
    let all = sum-map length words in
    let none : 0 * width ≡ 0 = omega arith in
    cut_wide image count width 0 words same (omega arith)

-- the image of context k is one of them
image_at : (words : Words) (k : ℕ) (images : List Image) → k < length images → AllByRecursion (IsImageOf words) images
    → IsImageOf words (slice_index_or images k [])
image_at words k [] below all = absurd (omega arith)
image_at words zero (image ∷ images) below all = all.0
image_at words (suc k) (image ∷ images) below all = image_at words k images (omega arith) all.1

-- what holds of all memories with their entries holds of those at a place
pub entry_at : (c : ℕ) (ms : List MemoryWords) (entries : List (Option (List Image))) (i : ℕ) (m : MemoryWords)
    (entry : Option (List Image)) → i < length ms → length entries ≡ length ms → m ≡ get_or ms i m
    → entry ≡ get_or entries i entry → AllByRecursion (λ e. AreImagesOf c e.0 e.1) (zip ms entries) → AreImagesOf c m entry
entry_at c [] entries i m entry below same is_m is_e all = absurd (omega arith)
entry_at c (x ∷ ms) [] i m entry below same is_m is_e all = absurd (omega arith)
entry_at c (x ∷ ms) (y ∷ entries) zero m entry below same is_m is_e all =
    subst (λ (a : MemoryWords). AreImagesOf c a entry) (sym is_m) (subst (λ b. AreImagesOf c x b) (sym is_e) all.0)
entry_at c (x ∷ ms) (y ∷ entries) (suc i) m entry below same is_m is_e all =
    entry_at c ms entries i m entry (omega arith) (omega arith) is_m is_e all.1

entry_wide : (k c : ℕ) (m : MemoryWords) (shape : MemShape) → map length m.words ≡ widths_of shape → k < c
    → (entry : Option (List Image)) → AreImagesOf c m entry → size_of m ≡ size_of (with_image k m entry)
entry_wide k c m shape wide below None are = refl
entry_wide k c m shape wide below (Some images) are =
    let there : k < length images = omega (arith, are.0) in
    ap (λ ns. let size : List ℕ × List ℕ = (m.name, ns) in size)
    (sym (image_wide (slice_index_or images k []) (word_count shape) shape.width m.words wide (image_at m.words k images there are.1)))

entries_wide : (k c : ℕ) → k < c → (ms : List MemoryWords) (shapes : List MemShape) → lengths_of ms ≡ map widths_of shapes
    → (entries : List (Option (List Image))) → AllByRecursion (λ e. AreImagesOf c e.0 e.1) (zip ms entries)
    → AreAlike ms (with_images k ms entries)
entries_wide k c below [] shapes same entries are = refl
entries_wide k c below (m ∷ ms) shapes same [] are = refl
entries_wide k c below (m ∷ ms) [] same (entry ∷ entries) are = absurd (cc)
entries_wide k c below (m ∷ ms) (shape ∷ shapes) same (entry ∷ entries) are =
    let first : map length m.words ≡ widths_of shape = cc in
    let rest : lengths_of ms ≡ map widths_of shapes = cc in
    ap₂ (λ n ns. n ∷ ns) (entry_wide k c m shape first below entry are.0) (entries_wide k c below ms shapes rest entries are.1)

-- the memories of a context are alike
pub images_alike : (net : Net) (images : Images) (k c : ℕ) → IsWellFormed net → AreImagesFor net c images → k < c
    → AreAlike net.memories (with_images k net.memories images.of)
images_alike net images k c w are below =
    entries_wide k c below net.memories (shapes_in net.shapes) (memories_wide net w) images.of are.each
