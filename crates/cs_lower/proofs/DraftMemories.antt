-- The memories of a netlist's draft are such as a machine has: their sizes fit one another and the limits.
use Rattle.std.specs.Prelude.{◌||◌, ◌&&◌, not, nat_lt, ◌⊎◌, slice_get, replicate, sum, flat_map, find}
use Rattle.std.proofs.Common.{◌≡◌, ℕ, zero, suc, ◌+◌, ◌*◌, ◌^◌, ◌-◌, ◌<◌, ◌≤◌, Bool, true, false, cond, List, [], ◌∷◌, length, map, drop, codes, min, Option, Some, None, refl, sym, ap, subst, ◌∙◌, arith, inl, inr, length-append}
use Rattle.std.specs.List.{list_any, zip}
use Rattle.std.proofs.Math.Nat.{min-le_right}
use Rattle.std.proofs.lemmas.Bool.{cases_lt, le-leb}
use Rattle.std.proofs.lemmas.List.{length-map, length-replicate}
use Rattle.std.proofs.lemmas.List.Sums.{sum-map, sum_by-cons}
use Rattle.std.proofs.lemmas.Nat.{pow_pos}
use Rattle.std.proofs.lemmas.Option.{none-some, same_Some}
use Rattle.cs_base.specs.declared.limit.Counted.{Counted}
use Rattle.cs_base.specs.declared.limit.Counted.TheVariants.{AddressBits, Cells, MemoryBits, ReadBits}
use Rattle.cs_base.specs.declared.limit.LimitFault.{LimitFault}
use Rattle.cs_cells.specs.declared.class.Class.{Class}
use Rattle.cs_cells.specs.declared.class.Class.TheVariants.{Asynchronous, Gate, Memory, NotFine, Register, Scope, Unknown}
use Rattle.cs_cells.specs.declared.memory.MemShape.{MemShape}
use Rattle.cs_cells.specs.Memories.{Words, word_count}
use Rattle.cs_conditions.specs.Conditions.{is_broken, is_misformed, memory_rules, or_else}
use Rattle.cs_graph.specs.declared.memory.Memory.{Memory as GraphMemory}
use Rattle.cs_graph.specs.Invariant.{IsMemory}
use Rattle.cs_json.specs.declared.document.CellDecl.{CellDecl}
use Rattle.cs_json.specs.declared.document.Module.{Module}
use Rattle.cs_modules.specs.Memories.{memory_shape, shape_by, shape_of, shapes_in}
use Rattle.cs_modules.specs.Modules.{cells_of, is_memory}
use Rattle.cs_modules.specs.Pins.{class_at, number_at}
use Rattle.cs_net.specs.declared.state.MemoryWords.{MemoryWords}
use Rattle.cs_net.specs.Accept.{above_limit, limit_fault, memory_bits, read_bits, too_many_address_bits}
use Rattle.cs_net.specs.Build.{net_of}
use Rattle.cs_net.specs.Invariant.{IsWellFormed}
use Rattle.cs_net.specs.Netlist.{Net}
use Rattle.cs_net.proofs.ClockFacts.{none_misformed}
use Rattle.cs_net.proofs.LimitLemmas.{all_narrow}
use Rattle.cs_net.proofs.MemoryFacts.{shape_count}
use Rattle.cs_net.proofs.MemoryPlaces.{map_at}
use Rattle.cs_net.proofs.MemoryWidths.{memory_wide}
use Rattle.cs_net.proofs.Members.{of_all}
use Rattle.cs_lower.specs.Lowered.{draft_of, filled, memory_of}
use Rattle.cs_lower.proofs.MemoryCells.{HasPlace, place_of_shape}

-- ---- within the limits

none_first : {A : Type 0} (a rest : Option A) → or_else a rest ≡ None → a ≡ None
none_first None rest none = refl
none_first (Some e) rest none = cc

none_rest : {A : Type 0} (a rest : Option A) → or_else a rest ≡ None → rest ≡ None
none_rest None rest none = none
none_rest (Some e) rest none = cc

none_above : (what : Counted) (count most : ℕ) → above_limit what count most ≡ None → count ≤ most
none_above what count most none = elim (cases_lt most count) [
  | inl above ↦
      let fault : LimitFault = record { what = what; found = min count (2 ^ 64 - 1); most = most } in
      let some = ap (λ t. cond t (Some fault) None) (le-leb (suc most) count above) in
      absurd (none-some fault (sym none ∙ some))
  | inr within ↦ omega (arith, within)
]

-- what a netlist's memories have at most
pub record HasFew (net : Net) : Type 0 where
  pub cells : length net.cells ≤ 65536
  pub memory : sum (map memory_bits (shapes_in net.shapes)) ≤ 4194304
  pub read : sum (map read_bits (shapes_in net.shapes)) ≤ 4194304

pub has_few : (net : Net) → IsWellFormed net → HasFew net
unfolding limit_fault
has_few net w =
    let shapes : List MemShape = shapes_in net.shapes in
    let bits : Option LimitFault = above_limit MemoryBits (sum (map memory_bits shapes)) 4194304 in
    let reads : Option LimitFault = above_limit ReadBits (sum (map read_bits shapes)) 4194304 in
    let addresses : Option LimitFault = above_limit AddressBits (too_many_address_bits shapes) 20 in
    let cells : Option LimitFault = above_limit Cells (length net.cells) 65536 in
    let memories = none_rest cells (or_else addresses (or_else bits reads)) w.within in
    let last = none_rest addresses (or_else bits reads) memories in
    record {
      cells = none_above Cells (length net.cells) 65536
          (none_first cells (or_else addresses (or_else bits reads)) w.within);
      memory = none_above MemoryBits (sum (map memory_bits shapes)) 4194304 (none_first bits reads last);
      read = none_above ReadBits (sum (map read_bits shapes)) 4194304 (none_rest bits reads last);
    }

not_wide : (shapes : List MemShape) → find (λ shape. nat_lt 20 shape.abits) shapes ≡ None → (i : ℕ) (shape : MemShape)
    → slice_get shapes i ≡ Some shape → nat_lt 20 shape.abits ≡ false
not_wide [] none i shape at = absurd (none-some shape at)
not_wide (s ∷ shapes) none i shape at = by (nat_lt 20 s.abits) refl none (not_wide shapes) i at
  where
    by : (wide : Bool) → nat_lt 20 s.abits ≡ wide
        → cond wide (Some s) (find (λ shape. nat_lt 20 shape.abits) shapes) ≡ None
        → (find (λ shape. nat_lt 20 shape.abits) shapes ≡ None → (i : ℕ) (shape : MemShape)
        → slice_get shapes i ≡ Some shape → nat_lt 20 shape.abits ≡ false)
        → (i : ℕ) → slice_get (s ∷ shapes) i ≡ Some shape → nat_lt 20 shape.abits ≡ false
    by true is none rest i at = absurd (none-some s (sym none))
    by false is none rest zero at = ap (λ x. nat_lt 20 x.abits) (sym (same_Some s shape at)) ∙ is
    by false is none rest (suc i) at = rest none i shape at

pub few_address_bits : (net : Net) → IsWellFormed net → (i : ℕ) (shape : MemShape)
    → slice_get (shapes_in net.shapes) i ≡ Some shape → shape.abits ≤ 20
unfolding limit_fault
few_address_bits net w i shape at =
    let narrow = not_wide (shapes_in net.shapes) (all_narrow (length net.cells) net.shapes w.within) i shape at in
    elim (cases_lt 20 shape.abits) [
      | inl wide ↦ let clash : true ≡ false = sym (le-leb 21 shape.abits wide) ∙ narrow in absurd (cc)
      | inr few ↦ omega (arith, few)
    ]

-- one of several is at most all of them
part_of_sum : {A : Type 0} (f : A → ℕ) (xs : List A) (i : ℕ) (x : A) → slice_get xs i ≡ Some x → f x ≤ sum (map f xs)
part_of_sum f [] i x at = absurd (none-some x at)
part_of_sum f (y ∷ xs) zero x at =
    let same = ap f (same_Some y x at) in
    let all = sum-map f (y ∷ xs) in
    let first = sum_by-cons f y xs in
    omega (arith, same, all, first)
part_of_sum f (y ∷ xs) (suc i) x at =
    let rest = part_of_sum f xs i x at in
    let rest_is = sum-map f xs in
    let all = sum-map f (y ∷ xs) in
    let first = sum_by-cons f y xs in
    omega (arith, rest, rest_is, all, first)

-- ---- there is a word, and it has a bit

-- a memory's size and the width of its words aren't 0
record HasBits (shape : MemShape) : Type 0 where
  size : 0 < shape.size
  width : 0 < shape.width

bits_by_class : (m : Module) (class : Class) (d : CellDecl) (shape : MemShape) → shape_by class d ≡ Some shape
    → (is_memory class && list_any is_broken (memory_rules m d)) ≡ false → HasBits shape
bits_by_class m (Gate kind) d shape is formed = cc
bits_by_class m (Register kind) d shape is formed = cc
bits_by_class m Memory d shape is formed =
    record { size = at_least size_broken (cases_lt 0 shape.size); width = at_least width_broken (cases_lt 0 shape.width) }
  where
    at_least : {n : ℕ} → (n ≡ 0 → ⊥) → (0 < n) ⊎ (n ≤ 0) → 0 < n
    at_least broken (inl some) = some
    at_least broken (inr none) = absurd (broken (omega (arith, none)))

    first : (a rest : Bool) → (a || rest) ≡ false → a ≡ false
    first true rest none = cc
    first false rest none = refl

    second : (a b rest : Bool) → (a || (b || rest)) ≡ false → b ≡ false
    second true b rest none = cc
    second false true rest none = cc
    second false false rest none = refl

    same : memory_shape d ≡ shape
    same = same_Some (memory_shape d) shape is

    size : ℕ
    size = number_at d (codes "SIZE")

    width : ℕ
    width = number_at d (codes "WIDTH")

    clash : {n k : ℕ} → n ≡ k → not (nat_lt 0 n) ≡ false → k ≡ 0 → ⊥
    clash is rule none = let true_is : true ≡ false = sym (ap (λ n. not (nat_lt 0 n)) (is ∙ none)) ∙ rule in cc

    size_broken : shape.size ≡ 0 → ⊥
    size_broken =
        clash (ap (λ s. s.size) same) (first (not (nat_lt 0 size)) (list_any is_broken (drop 1 (memory_rules m d))) formed)

    width_broken : shape.width ≡ 0 → ⊥
    width_broken =
        clash (ap (λ s. s.width) same)
        (second (not (nat_lt 0 size)) (not (nat_lt 0 width)) (list_any is_broken (drop 2 (memory_rules m d))) formed)
bits_by_class m Scope d shape is formed = cc
bits_by_class m Asynchronous d shape is formed = cc
bits_by_class m NotFine d shape is formed = cc
bits_by_class m Unknown d shape is formed = cc

has_bits : (net : Net) → IsWellFormed net → (i : ℕ) (shape : MemShape)
    → slice_get (shapes_in net.shapes) i ≡ Some shape → HasBits shape
unfolding net_of
has_bits net w i shape at =
    let place : HasPlace net.shapes 0 i shape = place_of_shape net.shapes 0 i shape at in
    let ds : List CellDecl = cells_of w.«module» in
    let shapes : net.shapes ≡ map shape_of ds = ap (λ (n : Net). n.shapes) w.is in
    let d = map_at shape_of ds place.at (Some shape) (ap (λ xs. slice_get xs place.at) (sym shapes) ∙ place.stands) in
    bits_by_class w.«module» (class_at d.0) d.0 shape d.2
    (of_all (λ d. is_misformed w.«module» d ≡ false) ds place.at d.0 (none_misformed w.«module» w.early) d.1)

pub some_size : (net : Net) → IsWellFormed net → (i : ℕ) (shape : MemShape)
    → slice_get (shapes_in net.shapes) i ≡ Some shape → 0 < shape.size
some_size net w i shape at = (has_bits net w i shape at).size

-- ---- the words at the start

-- words of one width, in a row
pub record HasLength (words : Words) (n width : ℕ) : Type 0 where
  pub count : length words ≡ n
  pub bits : length (flat_map (λ w. w) words) ≡ n * width

pub words_in_row : (words : Words) (n width : ℕ) → map length words ≡ replicate n width → HasLength words n width
words_in_row [] zero width same = record { count = refl; bits = omega arith }
words_in_row [] (suc n) width same = cc
words_in_row (word ∷ words) zero width same = cc
words_in_row (word ∷ words) (suc n) width same =
    let first : length word ≡ width = cc in
    let others : map length words ≡ replicate n width = cc in
    let rest = words_in_row words n width others in
    let count = rest.count in
    let bits = rest.bits in
    let both = length-append word (flat_map (λ w. w) words) in
    let next : suc n * width ≡ n * width + width = omega arith in
    record { count = omega (arith, count); bits = omega (arith, bits, both, first, next) }

filled_length : (count n width : ℕ) (words : Words) → map length words ≡ replicate n width → n ≤ count
    → length (filled count width words) ≡ count * width
filled_length count n width words same few =
    let row = words_in_row words n width same in
    let bits = row.bits in
    let rest : ℕ = count - length words in
    let number : count ≡ n + rest = let is = row.count in omega (arith, is, few) in
    let all : count * width ≡ n * width + rest * width = ap (λ k. k * width) number ∙ omega arith in
    let zeros = length-replicate (rest * width) false in
    let both = length-append (flat_map (λ w. w) words) (replicate (rest * width) false) in
    omega (arith, bits, all, zeros, both)

-- ---- memories

pub zip_at : {A B : Type 0} (xs : List A) (ys : List B) (i : ℕ) (e : A × B) → slice_get (zip xs ys) i ≡ Some e
    → (slice_get xs i ≡ Some e.0) × (slice_get ys i ≡ Some e.1)
zip_at [] ys i e at = absurd (none-some e at)
zip_at (x ∷ xs) [] i e at = absurd (none-some e at)
zip_at {A} {B} (x ∷ xs) (y ∷ ys) zero e at =
    let same : ◌≡◌ {A = A × B} (x, y) e = same_Some (x, y) e at in
    (ap (λ (p : A × B). Some p.0) same, ap (λ (p : A × B). Some p.1) same)
zip_at (x ∷ xs) (y ∷ ys) (suc i) e at = zip_at xs ys i e at

memory_fits : (net : Net) → IsWellFormed net → (i : ℕ) (words : MemoryWords) (shape : MemShape)
    → slice_get net.memories i ≡ Some words → slice_get (shapes_in net.shapes) i ≡ Some shape
    → IsMemory (memory_of (words, shape))
memory_fits net w i words shape at is =
    let few = has_few net w in
    let most = few.memory in
    let part = part_of_sum memory_bits (shapes_in net.shapes) i shape is in
    let narrow = few_address_bits net w i shape is in
    record {
      address_bits = omega (arith, narrow);
      some_words = pow_pos shape.abits;
      some_bits = (has_bits net w i shape is).width;
      reached = omega arith;
      size = omega (arith, part, most);
      start = filled_length (2 ^ shape.abits) (word_count shape) shape.width words.words
          (memory_wide net w i shape words is at)
          (min-le_right shape.size (2 ^ shape.abits));
    }

pub each_memory : (net : Net) → IsWellFormed net → (i : ℕ) (m : GraphMemory)
    → slice_get (draft_of net).memories i ≡ Some m → IsMemory m
each_memory net w i m at =
    let pair = map_at memory_of (zip net.memories (shapes_in net.shapes)) i m at in
    let both = zip_at net.memories (shapes_in net.shapes) i pair.0 pair.1 in
    subst IsMemory pair.2 (memory_fits net w i pair.0.0 pair.0.1 both.0 both.1)

pub zip_length : {A B : Type 0} (xs : List A) (ys : List B) → length (zip xs ys) ≤ length ys
zip_length [] ys = omega arith
zip_length (x ∷ xs) [] = omega arith
zip_length (x ∷ xs) (y ∷ ys) = let rest = zip_length xs ys in omega (arith, rest)

few_shapes : (shapes : List (Option MemShape)) → length (shapes_in shapes) ≤ length shapes
few_shapes [] = omega arith
few_shapes (None ∷ shapes) = let rest = few_shapes shapes in omega (arith, rest)
few_shapes (Some shape ∷ shapes) = let rest = few_shapes shapes in omega (arith, rest)

pub few_memories : (net : Net) → IsWellFormed net → length (draft_of net).memories < 2 ^ 32
few_memories net w =
    let made = length-map (zip net.memories (shapes_in net.shapes)) memory_of in
    let zipped = zip_length net.memories (shapes_in net.shapes) in
    let few = few_shapes net.shapes in
    let cells = (has_few net w).cells in
    let each = shape_count net w in
    omega (arith, made, zipped, few, cells, each)
