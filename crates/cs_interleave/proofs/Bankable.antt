-- The graph of a netlist that is slowed for several contexts can be banked for them.
use Rattle.std.specs.Prelude.{slice_get, flat_map, get_or, min, replicate, Option, Some, None}
use Rattle.std.specs.List.{AllByRecursion, zip}
use Rattle.std.proofs.Common.{◌≡◌, ℕ, zero, suc, ◌-◌, ◌*◌, ◌^◌, ◌<◌, ◌≤◌, Bool, false, List, [], ◌∷◌, ◌++◌, length, map, refl, sym, ap, subst, ◌∙◌, arith, mul-le-mul_right}
use Rattle.std.proofs.lemmas.List.{length-map}
use Rattle.std.proofs.lemmas.Option.{none-some, same_Some}
use Rattle.std.proofs.lemmas.Slice.Zip.{length-zip}
use Rattle.cs_bank.specs.Bank.{CanBank, FitsMemory, IsWhole}
use Rattle.cs_cells.specs.declared.memory.MemShape.{MemShape}
use Rattle.cs_cells.specs.Memories.{word_count}
use Rattle.cs_graph.specs.declared.edge.Edge.{Edge}
use Rattle.cs_graph.specs.declared.graph.Graph.{Graph}
use Rattle.cs_graph.specs.declared.memory.Memory.{Memory}
use Rattle.cs_graph.specs.Past.{IsSlowedBy}
use Rattle.cs_graph.specs.Slow.{slow, slow_edge}
use Rattle.cs_lower.specs.Lowered.{lowered, memory_of}
use Rattle.cs_lower.proofs.DraftMemories.{few_address_bits, some_size, words_in_row, zip_at}
use Rattle.cs_modules.specs.Memories.{shapes_in}
use Rattle.cs_net.specs.declared.images.Images.{Images}
use Rattle.cs_net.specs.declared.state.MemoryWords.{MemoryWords}
use Rattle.cs_net.specs.Contexts.{AreImagesFor, AreImagesOf, Image, IsImageOf}
use Rattle.cs_net.specs.Invariant.{IsWellFormed}
use Rattle.cs_net.specs.Netlist.{Net}
use Rattle.cs_net.proofs.MemoryFacts.{memory_count}
use Rattle.cs_net.proofs.MemoryPlaces.{map_at}
use Rattle.cs_net.proofs.MemoryWidths.{memory_wide}
use Rattle.cs_interleave.proofs.ContextStarts.{image_bits}

-- ---- weights

-- how many registers an edge has, 0 where there is none
abbrev weight_in : Option Edge → ℕ
weight_in None = 0
weight_in (Some d) = d.weight

-- each weight of a slowed graph is a multiple
pub slowed_by : (c : ℕ) (g : Graph) → IsSlowedBy c (slow c g)
slowed_by c g = record {
  turns = λ e. weight_in (slice_get g.edges e);
  are = λ e d at.
      let old = map_at (slow_edge c) g.edges e d at in
      ap (λ (x : Edge). x.weight) (sym old.2) ∙ ap (λ o. weight_in o * c) (sym old.1);
}

-- ---- memories

-- what stands past a list of bits before so many 0
zeros_past : (xs : List Bool) (n i : ℕ) → length xs ≤ i → get_or (xs ++ replicate n false) i false ≡ false
zeros_past [] zero i h = refl
zeros_past [] (suc n) zero h = refl
zeros_past [] (suc n) (suc i) h = zeros_past [] n i (omega arith)
zeros_past (x ∷ xs) n zero h = absurd (omega (arith, h))
zeros_past (x ∷ xs) n (suc i) h = zeros_past xs n i (omega (arith, h))

-- a list of as many words as there are below a size ends before that
row_within : (size all width bits i : ℕ) → bits ≡ min size all * width → size * width ≤ i → bits ≤ i
row_within size all width bits i is h =
    let few : min size all * width ≤ size * width = mul-le-mul_right width (least size all) in
    omega (arith, is, few, h)
  where
    least : (a b : ℕ) → min a b ≤ a
    least a b = omega arith

whole_memory : (words : MemoryWords) (shape : MemShape) → 0 < shape.size → shape.abits ≤ 20
    → map length words.words ≡ replicate (word_count shape) shape.width → IsWhole (memory_of (words, shape))
whole_memory words shape some narrow wide = record {
  some = some;
  address_bits = narrow;
  words = refl;
  rest = λ i past.
      zeros_past (flat_map (λ w. w) words.words) ((2 ^ shape.abits - length words.words) * shape.width) i
      (row_within shape.size (2 ^ shape.abits) shape.width (length (flat_map (λ w. w) words.words)) i
      (words_in_row words.words (word_count shape) shape.width wide).bits past);
}

fitting_entry : (c : ℕ) (words : MemoryWords) (shape : MemShape)
    → map length words.words ≡ replicate (word_count shape) shape.width
    → (entry : Option (List Image)) → AreImagesOf c words entry → FitsMemory c (memory_of (words, shape)) entry
fitting_entry c words shape wide None are = tt
fitting_entry c words shape wide (Some images) are = (are.0, long images are.1)
  where
    long : (xs : List Image) → AllByRecursion (IsImageOf words.words) xs
        → AllByRecursion (λ image. length image ≡ min shape.size (2 ^ shape.abits) * shape.width) xs
    long [] all = tt
    long (x ∷ xs) all = (image_bits (word_count shape) shape.width words.words x wide all.0, long xs all.1)

-- the entry of a memory is images of it
entry_of : (c : ℕ) (ms : List MemoryWords) (entries : List (Option (List Image)))
    → AllByRecursion (λ e. AreImagesOf c e.0 e.1) (zip ms entries)
    → (i : ℕ) (m : MemoryWords) (entry : Option (List Image))
    → slice_get ms i ≡ Some m → slice_get entries i ≡ Some entry → AreImagesOf c m entry
entry_of c [] entries are i m entry at given = absurd (none-some m at)
entry_of c (x ∷ ms) [] are i m entry at given = absurd (none-some entry given)
entry_of c (x ∷ ms) (y ∷ entries) are zero m entry at given =
    subst (AreImagesOf c m) (same_Some y entry given)
    (subst (λ (n : MemoryWords). AreImagesOf c n y) (same_Some x m at) are.0)
entry_of c (x ∷ ms) (y ∷ entries) are (suc i) m entry at given = entry_of c ms entries are.1 i m entry at given

-- ---- a netlist's graph

module _ (net : Net) (w : IsWellFormed net) (images : Images) (c : ℕ) (are : AreImagesFor net c images) where
  module _ (i : ℕ) (m : Memory) (at : slice_get (lowered net).memories i ≡ Some m) where
    pair : (p : MemoryWords × MemShape)
        × (slice_get (zip net.memories (shapes_in net.shapes)) i ≡ Some p) × (memory_of p ≡ m)
    pair = map_at memory_of (zip net.memories (shapes_in net.shapes)) i m at

    words_at : slice_get net.memories i ≡ Some pair.0.0
    words_at = (zip_at net.memories (shapes_in net.shapes) i pair.0 pair.1).0

    shape_at : slice_get (shapes_in net.shapes) i ≡ Some pair.0.1
    shape_at = (zip_at net.memories (shapes_in net.shapes) i pair.0 pair.1).1

    wide : map length pair.0.0.words ≡ replicate (word_count pair.0.1) pair.0.1.width
    wide = memory_wide net w i pair.0.1 pair.0.0 shape_at words_at

    is_whole : IsWhole m
    is_whole =
        subst IsWhole pair.2
        (whole_memory pair.0.0 pair.0.1 (some_size net w i pair.0.1 shape_at)
        (few_address_bits net w i pair.0.1 shape_at) wide)

    fits : (entry : Option (List Image)) → slice_get images.of i ≡ Some entry → FitsMemory c m entry
    fits entry given =
        subst (λ (x : Memory). FitsMemory c x entry) pair.2
        (fitting_entry c pair.0.0 pair.0.1 wide entry
        (entry_of c net.memories images.of are.each i pair.0.0 entry words_at given))

  entry_count : length images.of ≡ length (lowered net).memories
  entry_count =
      let made = length-map (zip net.memories (shapes_in net.shapes)) memory_of in
      let zipped = length-zip net.memories (shapes_in net.shapes) in
      let same = memory_count net w in
      let count = are.count in
      omega (arith, made, zipped, same, count)

  -- it can be banked, slowed for as many contexts as the images are for
  pub can_bank : CanBank c images.of (slow c (lowered net))
  can_bank = record {
    slowed = slowed_by c (lowered net);
    whole = is_whole;
    count = entry_count;
    images = λ i m entry at given. fits i m at entry given;
  }
