-- Each memory of a netlist is that of a cell, and its vertices give it what the netlist does.
use Rattle.std.specs.Prelude.{slice_get, option_map, unwrap_or}
use Rattle.std.proofs.Common.{◌≡◌, ℕ, zero, suc, ◌+◌, ◌<◌, Bool, List, [], ◌∷◌, ◌++◌, length, get_or, Option, Some, None, sym, ap, subst, ◌∙◌, arith}
use Rattle.std.specs.List.{zip}
use Rattle.std.proofs.lemmas.Option.{same_Some, slice_get_within}
use Rattle.cs_base.specs.declared.signal.Signal.{Signal}
use Rattle.cs_cells.specs.declared.memory.MemShape.{MemShape}
use Rattle.cs_graph.specs.declared.memory.Memory.{Memory}
use Rattle.cs_json.specs.Readable.{AreInOrder}
use Rattle.cs_modules.specs.Memories.{shapes_in}
use Rattle.cs_net.specs.declared.netlist.Cell.{Cell}
use Rattle.cs_net.specs.declared.state.MemoryWords.{MemoryWords}
use Rattle.cs_net.specs.Build.{places_from}
use Rattle.cs_net.specs.Invariant.{IsWellFormed}
use Rattle.cs_net.specs.Netlist.{Net}
use Rattle.cs_net.specs.Trace.{Valuation, signal_value, writes_at, writes_of}
use Rattle.cs_net.proofs.CellNames.{found_by_name, name_stands}
use Rattle.cs_net.proofs.CellOrder.{cells_in_order}
use Rattle.cs_net.proofs.MemoryFacts.{memory_count, memory_name, shape_count}
use Rattle.cs_net.proofs.Members.{within_has}
use Rattle.cs_net.proofs.MemoryPlaces.{at_map}
use Rattle.cs_lower.specs.Lowered.{constants, draft_of, memory_of, pieces_of}
use Rattle.cs_lower.specs.declared.taps.Tap.{Tap}
use Rattle.cs_lower.specs.declared.taps.Tap.TheVariants.{Signal as of_signal}
use Rattle.cs_lower.proofs.WriteValues.{given, given_writes}

-- ---- shapes by their numbers

-- the shape of a number among those that there are stands at a cell that has this number
pub record HasPlace (shapes : List (Option MemShape)) (k j : ℕ) (shape : MemShape) : Type 0 where
  pub at : ℕ
  pub stands : slice_get shapes at ≡ Some (Some shape)
  pub place : get_or (places_from k shapes) at 0 ≡ k + j

pub place_of_shape : (shapes : List (Option MemShape)) (k j : ℕ) (shape : MemShape) → slice_get (shapes_in shapes) j ≡ Some shape
    → HasPlace shapes k j shape
place_of_shape [] k j shape stands = cc
place_of_shape (None ∷ shapes) k j shape stands =
    let rest = place_of_shape shapes k j shape stands in
    record { at = suc rest.at; stands = rest.stands; place = rest.place }
place_of_shape (Some s ∷ shapes) k zero shape stands =
    record { at = 0; stands = ap Some stands; place = omega arith }
place_of_shape (Some s ∷ shapes) k (suc j) shape stands =
    let rest = place_of_shape shapes (k + 1) j shape stands in
    record { at = suc rest.at; stands = rest.stands; place = omega (arith, rest.place) }

-- ---- of a netlist

-- memory m is that of cell i, with its shape and its words at the start
pub record IsMemory (net : Net) (m : ℕ) (words : MemoryWords) : Type 0 where
  pub i : ℕ
  pub cell : Cell
  pub shape : MemShape
  pub cell_at : slice_get net.cells i ≡ Some cell
  pub shape_at : slice_get net.shapes i ≡ Some (Some shape)
  pub shape_there : slice_get (shapes_in net.shapes) m ≡ Some shape
  pub place : get_or (places_from 0 net.shapes) i 0 ≡ m
  pub name : words.name ≡ cell.name

-- the name at a place is that of what stands there
same_name : (memories : List MemoryWords) (place m : ℕ) (words : MemoryWords) (name : List ℕ) → place ≡ m
    → slice_get memories m ≡ Some words → option_map (λ m. m.name) (slice_get memories place) ≡ Some name
    → words.name ≡ name
same_name memories place m words name same stands named =
    let there : slice_get memories place ≡ Some words = ap (slice_get memories) same ∙ stands in
    same_Some words.name name (sym (ap (option_map (λ (m : MemoryWords). m.name)) there) ∙ named)

pub cell_of_memory : (net : Net) → IsWellFormed net → (m : ℕ) (words : MemoryWords) → slice_get net.memories m ≡ Some words
    → IsMemory net m words
cell_of_memory net w m words stands =
    let within : m < length net.memories = slice_get_within net.memories m words stands in
    let shape = within_has (shapes_in net.shapes) m (omega (arith, within, memory_count net w)) in
    let at = place_of_shape net.shapes 0 m shape.0 shape.1 in
    let there : at.at < length net.shapes = slice_get_within net.shapes at.at (Some shape.0) at.stands in
    let cell = within_has net.cells at.at (omega (arith, there, shape_count net w)) in
    let place : get_or (places_from 0 net.shapes) at.at 0 ≡ m = omega (arith, at.place) in
    let named = memory_name net w at.at cell.0 shape.0 cell.1 at.stands in
    record {
      i = at.at;
      cell = cell.0;
      shape = shape.0;
      cell_at = cell.1;
      shape_at = at.stands;
      shape_there = shape.1;
      place = place;
      name = same_name net.memories (get_or (places_from 0 net.shapes) at.at 0) m words cell.0.name place stands named;
    }

zipped : {A B : Type 0} (xs : List A) (ys : List B) (i : ℕ) (x : A) (y : B) → slice_get xs i ≡ Some x
    → slice_get ys i ≡ Some y → slice_get (zip xs ys) i ≡ Some (x, y)
zipped [] ys i x y first second = cc
zipped (a ∷ xs) [] i x y first second = cc
zipped {A} {B} (a ∷ xs) (b ∷ ys) zero x y first second =
    let same : a ≡ x = same_Some a x first in
    let fits : b ≡ y = same_Some b y second in
    λ i. Some (same i, fits i)
zipped (a ∷ xs) (b ∷ ys) (suc i) x y first second = zipped xs ys i x y first second

-- the graph's memory of a number is made from the netlist's
pub memory_there : (net : Net) → IsWellFormed net → (m : ℕ) (words : MemoryWords) (stands : slice_get net.memories m ≡ Some words)
    → (is : IsMemory net m words) → slice_get (draft_of net).memories m ≡ Some (memory_of (words, is.shape))
memory_there net w m words stands is =
    at_map memory_of (zip net.memories (shapes_in net.shapes)) m (words, is.shape)
    (zipped net.memories (shapes_in net.shapes) m words is.shape stands is.shape_there)

-- what a netlist gives the memory of a cell's name
named_writes : (net : Net) → IsWellFormed net → (v : Valuation) (i : ℕ) (cell : Cell) (shape : MemShape)
    → slice_get net.cells i ≡ Some cell → slice_get net.shapes i ≡ Some (Some shape)
    → writes_at net cell.name v ≡ writes_of (cell, Some shape) v
named_writes net w v i cell shape at is =
    let order : AreInOrder (λ (c : Cell). c.name) net.cells =
    subst (λ (n : Net). AreInOrder (λ (c : Cell). c.name) n.cells) (sym w.is)
    (cells_in_order w.«module» w.readable.cells_order) in
    let found = found_by_name net.cells net.shapes i (cell, Some shape) order
    (zipped net.cells net.shapes i cell (Some shape) at is) in
    ap (λ name. writes_at net name v) (sym (name_stands net.cells i cell at))
    ∙ ap (λ c. unwrap_or (option_map (λ c. writes_of c v) c) []) found

-- what the vertices give a memory is what the netlist gives the memory of its name
pub given_by_name : (net : Net) → IsWellFormed net → (tap : Tap → Bool) (v : Valuation)
    → ((s : Signal) → tap (of_signal s) ≡ signal_value v s) → (m : ℕ) (words : MemoryWords) (memory : Memory)
    → slice_get net.memories m ≡ Some words → slice_get (draft_of net).memories m ≡ Some memory
    → given m memory tap (pieces_of net ++ constants net) ≡ writes_at net words.name v
given_by_name net w tap v shows m words memory stands made =
    let is : IsMemory net m words = cell_of_memory net w m words stands in
    let same : memory_of (words, is.shape) ≡ memory =
    same_Some (memory_of (words, is.shape)) memory (sym (memory_there net w m words stands is) ∙ made) in
    ap (λ n. given n memory tap (pieces_of net ++ constants net)) (sym is.place)
    ∙ given_writes net w tap v shows is.i is.cell is.shape is.cell_at is.shape_at memory
    (ap (λ (x : Memory). x.abits) (sym same)) (ap (λ (x : Memory). x.width) (sym same))
    ∙ sym (named_writes net w v is.i is.cell is.shape is.cell_at is.shape_at)
    ∙ ap (λ name. writes_at net name v) (sym is.name)
