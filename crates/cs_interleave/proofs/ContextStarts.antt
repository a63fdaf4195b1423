-- The graph of a netlist with the start of a context is that of the netlist, with the context's words in its memories.
use Rattle.std.specs.Prelude.{slice_index_or, slice_range, flat_map, replicate, Option, Some, None}
use Rattle.std.specs.List.{AllByRecursion, enumerate_from, sum_by, zip}
use Rattle.std.proofs.Common.{◌≡◌, ℕ, zero, suc, ◌+◌, ◌-◌, ◌*◌, ◌^◌, ◌<◌, ◌≤◌, false, List, [], ◌∷◌, ◌++◌, length, map, drop, refl, sym, ap, ap₂, ◌∙◌, arith}
use Rattle.std.proofs.Math.Nat.{min-le_right}
use Rattle.std.proofs.lemmas.List.{drop_all, length-map}
use Rattle.std.proofs.lemmas.List.Folds.{drop_split}
use Rattle.std.proofs.lemmas.List.FromFn.{length-enumerate_from}
use Rattle.std.proofs.lemmas.List.Sums.{sum-map, sum_by-cons}
use Rattle.cs_bank.proofs.StartLemmas.{drop_none}
use Rattle.cs_bank.specs.Starts.{filled as filled_bits, memory_in, of_context as graph_of_context, with_entries}
use Rattle.cs_cells.specs.declared.memory.MemShape.{MemShape}
use Rattle.cs_cells.specs.Memories.{Words, word_count}
use Rattle.cs_graph.specs.declared.memory.Memory.{Memory}
use Rattle.cs_graph.specs.Draft.{built}
use Rattle.cs_lower.specs.Followed.{followed}
use Rattle.cs_lower.specs.Lowered.{draft_of, filled, lowered, memory_of}
use Rattle.cs_lower.specs.Wires.{parts_of}
use Rattle.cs_lower.proofs.DraftMemories.{words_in_row}
use Rattle.cs_modules.specs.Memories.{shapes_in}
use Rattle.cs_net.specs.declared.images.Images.{Images}
use Rattle.cs_net.specs.declared.state.MemoryWords.{MemoryWords}
use Rattle.cs_modules.specs.Words.{image_words}
use Rattle.cs_net.specs.Contexts.{AreImagesFor, AreImagesOf, Image, IsImageOf, of_context, with_image, with_images}
use Rattle.cs_net.specs.Drivers.{driver_of}
use Rattle.cs_net.specs.Invariant.{IsWellFormed}
use Rattle.cs_net.specs.Netlist.{Net}
use Rattle.cs_net.proofs.MemoryWidths.{memories_wide}

-- ---- vertices

same_vertices : (net : Net) (ms : List MemoryWords)
    → (draft_of (record net { memories = ms })).vertices ≡ (draft_of net).vertices
unfolding driver_of followed parts_of
same_vertices net ms = refl

-- ---- words

-- from word i on, the words that an image is cut into have its bits from there on
cut_bits : (image : Image) (count width i : ℕ) (words : Words) → map length words ≡ replicate count width
    → length image ≡ (i + count) * width
    → flat_map (λ w. w)
    (map (λ e. slice_range image (e.0 * length e.1) (e.0 * length e.1 + length e.1)) (enumerate_from i words))
    ≡ drop (i * width) image
cut_bits image zero width i [] same long =
    let all : (i + 0) * width ≡ i * width = omega arith in
    sym (drop_all (i * width) image (omega (arith, long, all)))
cut_bits image (suc count) width i [] same long = absurd (cc)
cut_bits image zero width i (word ∷ words) same long = absurd (cc)
cut_bits image (suc count) width i (word ∷ words) same long =
    let first : length word ≡ width = cc in
    let rest : map length words ≡ replicate count width = cc in
    let next : (i + 1) * width ≡ i * width + width = omega arith in
    let place : (i + 1) + count ≡ i + suc count = omega arith in
    ap₂ (λ xs ys. xs ++ ys) (ap (λ n. slice_range image (i * n) (i * n + n)) first)
    (cut_bits image count width (i + 1) words rest (long ∙ ap (λ n. n * width) (sym place))
    ∙ ap (λ n. drop n image) next)
    ∙ sym (drop_split image (i * width) (i * width + width) (omega arith))

-- the words that an image is cut into are its bits
cut_whole : (image : Image) (count width : ℕ) (words : Words) → map length words ≡ replicate count width
    → length image ≡ count * width → flat_map (λ w. w) (image_words words image) ≡ image
cut_whole image count width words same long =
    let place : 0 + count ≡ count = omega arith in
    let none : 0 * width ≡ 0 = omega arith in
    cut_bits image count width 0 words same (long ∙ ap (λ n. n * width) (sym place))
    ∙ ap (λ n. drop n image) none
    ∙ drop_none image

-- an image of words has so many bits
pub image_bits : (count width : ℕ) (words : Words) (image : Image) → map length words ≡ replicate count width
    → IsImageOf words image → length image ≡ count * width
image_bits count width words image same is = is ∙ sum-map length words ∙ row count words same
  where
    row : (n : ℕ) (ws : Words) → map length ws ≡ replicate n width → sum_by length ws ≡ n * width
    row zero [] same = omega arith
    row (suc n) [] same = absurd (cc)
    row zero (w ∷ ws) same = absurd (cc)
    row (suc n) (w ∷ ws) same =
        let first : length w ≡ width = cc in
        let others : map length ws ≡ replicate n width = cc in
        let rest = row n ws others in
        let next : suc n * width ≡ width + n * width = omega arith in
        sum_by-cons length w ws ∙ omega (arith, first, rest, next)

-- with 0 in the words that there are no bits for
same_fill : (all count width : ℕ) (words : Words) (image : Image) → map length words ≡ replicate count width
    → count ≤ all → IsImageOf words image
    → filled_bits (all * width) image ≡ filled all width (image_words words image)
same_fill all count width words image same few is =
    let bits = image_bits count width words image same is in
    let cut = length-map (enumerate_from 0 words)
    (λ e. slice_range image (e.0 * length e.1) (e.0 * length e.1 + length e.1)) in
    let listed = length-enumerate_from 0 words in
    let number = (words_in_row words count width same).count in
    let made : length (image_words words image) ≡ count = cut ∙ listed ∙ number in
    let parts : all ≡ count + (all - count) = omega (arith, few) in
    let products : all * width ≡ count * width + (all - count) * width = ap (λ n. n * width) parts ∙ omega arith in
    let rest : all * width - length image ≡ (all - count) * width = omega (arith, products, bits) in
    ap₂ (λ xs n. xs ++ replicate n false) (sym (cut_whole image count width words same bits))
    (rest ∙ ap (λ n. (all - n) * width) (sym made))

-- ---- memories

-- the image of context k is one of them
image_at : (words : Words) (k : ℕ) (images : List Image) → k < length images → AllByRecursion (IsImageOf words) images
    → IsImageOf words (slice_index_or images k [])
image_at words k [] below all = absurd (omega (arith, below))
image_at words zero (image ∷ images) below all = all.0
image_at words (suc k) (image ∷ images) below all = image_at words k images (omega (arith, below)) all.1

same_memory : (k c : ℕ) (m : MemoryWords) (shape : MemShape)
    → map length m.words ≡ replicate (word_count shape) shape.width
    → k < c → (entry : Option (List Image)) → AreImagesOf c m entry
    → memory_in k (memory_of (m, shape)) entry ≡ memory_of (with_image k m entry, shape)
same_memory k c m shape wide below None are = refl
same_memory k c m shape wide below (Some images) are =
    let there : k < length images = omega (arith, below, are.0) in
    ap (λ start. let memory : Memory = record (memory_of (m, shape)) { start = start } in memory)
    (same_fill (2 ^ shape.abits) (word_count shape) shape.width m.words (slice_index_or images k []) wide
    (min-le_right shape.size (2 ^ shape.abits)) (image_at m.words k images there are.1))

same_memories : (k c : ℕ) → k < c → (ms : List MemoryWords) (shapes : List MemShape)
    → map (λ (m : MemoryWords). map length m.words) ms ≡ map (λ (s : MemShape). replicate (word_count s) s.width) shapes
    → (entries : List (Option (List Image))) → length entries ≡ length ms
    → AllByRecursion (λ e. AreImagesOf c e.0 e.1) (zip ms entries)
    → with_entries (memory_in k) (map memory_of (zip ms shapes)) entries
    ≡ map memory_of (zip (with_images k ms entries) shapes)
same_memories k c below [] shapes same [] count are = refl
same_memories k c below [] shapes same (entry ∷ entries) count are = absurd (omega (arith, count))
same_memories k c below (m ∷ ms) [] same entries count are = absurd (cc)
same_memories k c below (m ∷ ms) (shape ∷ shapes) same [] count are = absurd (omega (arith, count))
same_memories k c below (m ∷ ms) (shape ∷ shapes) same (entry ∷ entries) count are =
    let first : map length m.words ≡ replicate (word_count shape) shape.width = cc in
    let rest : map (λ (m : MemoryWords). map length m.words) ms
    ≡ map (λ (s : MemShape). replicate (word_count s) s.width) shapes = cc in
    ap₂ (λ x xs. x ∷ xs) (same_memory k c m shape first below entry are.0)
    (same_memories k c below ms shapes rest entries (omega (arith, count)) are.1)

-- ---- the graph

-- the graph of a netlist whose memories start as those of context k is that of the netlist with this context's start
pub start_of_context : (net : Net) (images : Images) (c k : ℕ) → IsWellFormed net → AreImagesFor net c images → k < c
    → graph_of_context k images.of (lowered net) ≡ lowered (of_context net images k)
start_of_context net images c k w are below =
    let same =
    same_memories k c below net.memories (shapes_in net.shapes) (memories_wide net w) images.of are.count are.each in
    ap₂ (λ vertices memories. built (record { vertices = vertices; memories = memories }))
    (sym (same_vertices net (with_images k net.memories images.of))) same
