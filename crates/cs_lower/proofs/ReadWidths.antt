-- The Reads among a netlist's vertices have as many outputs in all as its read ports have data bits, at most.
use Rattle.std.specs.Prelude.{slice_get}
use Rattle.std.proofs.Common.{◌≡◌, ℕ, ◌+◌, ◌*◌, ◌≤◌, true, false, List, [], ◌∷◌, ◌++◌, length, map, Option, Some, None, codes, refl, ap, ◌∙◌, arith}
use Rattle.std.specs.List.{AllByRecursion, enumerate_from, sum_by}
use Rattle.std.proofs.lemmas.List.Sums.{sum-map, sum_by-append, sum_by-cons}
use Rattle.cs_cells.specs.declared.class.Class.{Class}
use Rattle.cs_cells.specs.declared.class.Class.TheVariants.{Asynchronous, Gate as GateClass, Memory, NotFine, Register, Scope, Unknown}
use Rattle.cs_cells.specs.declared.memory.MemShape.{MemShape}
use Rattle.cs_cells.specs.declared.memory.ReadShape.{ReadShape}
use Rattle.cs_graph.specs.declared.memory.Memory.{Memory as GraphMemory}
use Rattle.cs_graph.specs.declared.vertex.VertexKind.{VertexKind}
use Rattle.cs_graph.specs.declared.vertex.VertexKind.TheVariants.{Constant, Gate, Host, Input, Output, Read, Write}
use Rattle.cs_graph.specs.Kinds.{read_width, word_bits}
use Rattle.cs_modules.specs.Memories.{shapes_in}
use Rattle.cs_modules.specs.Pins.{count_from}
use Rattle.cs_net.specs.declared.netlist.Cell.{Cell}
use Rattle.cs_net.specs.Accept.{read_bits}
use Rattle.cs_net.specs.Drivers.{register_of, signal_of}
use Rattle.cs_net.specs.Invariant.{IsWellFormed}
use Rattle.cs_net.specs.Netlist.{Net}
use Rattle.cs_lower.specs.Cells.{Placed, cell_parts, class_parts, data_parts, gate_parts, memory_parts, placed_cells, read_parts, write_parts, write_piece}
use Rattle.cs_lower.specs.Lowered.{buffer, constants, draft_of, is_used, pieces_of, wiring_of}
use Rattle.cs_lower.specs.Registers.{register_parts}
use Rattle.cs_lower.specs.declared.taps.Tap.TheVariants.{Signal as of_signal}
use Rattle.cs_lower.specs.declared.taps.Piece.{Piece}
use Rattle.cs_lower.specs.Taps.{in_turn}
use Rattle.cs_lower.specs.Wires.{parts_of, port_parts}
use Rattle.cs_lower.proofs.DraftMemories.{has_few}
use Rattle.cs_lower.proofs.FittingNets.{all_by_place, words_of}
use Rattle.cs_lower.proofs.PlacedCells.{placed, placed_from}
use Rattle.cs_lower.proofs.PortNumbers.{HasNoPort, HaveNoPorts, kinds_of}
use Rattle.cs_lower.proofs.PortsInOrder.{kinds_join, none_of_buffers, none_of_constants, none_of_data, none_of_ports, none_of_register}
use Rattle.cs_lower.proofs.SeenMemories.{memory_at}

module _ (ms : List GraphMemory) where
  -- how many outputs the Reads among these have
  abbrev pub outputs_in : List Piece → ℕ
  outputs_in pieces = sum_by (read_width ms) (kinds_of pieces)

  outputs_join : (xs ys : List Piece) → outputs_in (xs ++ ys) ≡ outputs_in xs + outputs_in ys
  outputs_join xs ys =
      ap (sum_by (read_width ms)) (kinds_join xs ys) ∙ sum_by-append (read_width ms) (kinds_of xs) (kinds_of ys)

  no_width : (kind : VertexKind) → HasNoPort kind → read_width ms kind ≡ 0
  no_width Host none = refl
  no_width Input none = refl
  no_width Output none = refl
  no_width (Constant b) none = refl
  no_width (Gate kind) none = refl
  no_width (Read i port) none = absurd none
  no_width (Write i port) none = absurd none

  plain_outputs : (pieces : List Piece) → HaveNoPorts pieces → outputs_in pieces ≡ 0
  plain_outputs [] none = refl
  plain_outputs (p ∷ pieces) none =
      let all = sum_by-cons (read_width ms) p.kind (kinds_of pieces) in
      let first = no_width p.kind none.0 in
      let rest = plain_outputs pieces none.1 in
      omega (arith, all, first, rest)

  -- ---- one memory

  -- the memory of a number has words of a shape's width
  abbrev HasWidth : ℕ → MemShape → Type 0
  HasWidth memory shape = word_bits (slice_get ms memory) ≡ shape.width

  module _ (net : Net) (memory : ℕ) (cell : Cell) (shape : MemShape) (wide : HasWidth memory shape) where
    read_outputs : (v k : ℕ) (read : ReadShape)
        → outputs_in (read_parts net memory cell shape v (k, read)).pieces ≡ shape.width
    read_outputs v k read =
        let rest : List Piece = (data_parts net cell shape (k, read) v).pieces in
        let all = sum_by-cons (read_width ms) (Read memory k) (kinds_of rest) in
        let none = plain_outputs rest (none_of_data net cell shape (k, read) v) in
        omega (arith, all, none, wide)

    reads_outputs : (n k : ℕ) (reads : List ReadShape)
        → outputs_in (in_turn (read_parts net memory cell shape) n (enumerate_from k reads)).pieces
        ≡ length reads * shape.width
    reads_outputs n k [] = omega arith
    reads_outputs n k (read ∷ reads) =
        let here : List Piece = (read_parts net memory cell shape n (k, read)).pieces in
        let rest : List Piece =
        (in_turn (read_parts net memory cell shape) (n + length here) (enumerate_from (k + 1) reads)).pieces in
        let both = outputs_join here rest in
        let first = read_outputs n k read in
        let others = reads_outputs (n + length here) (k + 1) reads in
        let all : length (read ∷ reads) * shape.width ≡ shape.width + length reads * shape.width = omega arith in
        omega (arith, both, first, others, all)

    writes_outputs : (ports : List ℕ) → outputs_in (map (write_piece memory cell shape) ports) ≡ 0
    writes_outputs [] = refl
    writes_outputs (port ∷ ports) =
        let all =
        sum_by-cons (read_width ms) (Write memory port) (kinds_of (map (write_piece memory cell shape) ports)) in
        let rest = writes_outputs ports in
        omega (arith, all, rest)

    memory_outputs : (n : ℕ) → outputs_in (memory_parts net n memory cell (Some shape)).pieces ≡ read_bits shape
    memory_outputs n =
        let reads : List Piece = (in_turn (read_parts net memory cell shape) n (enumerate_from 0 shape.reads)).pieces in
        let both = outputs_join reads (write_parts memory cell shape).pieces in
        let first = reads_outputs n 0 shape.reads in
        let none = writes_outputs (count_from 0 shape.writes) in
        omega (arith, both, first, none)

  -- ---- cells

  unshaped_outputs : (net : Net) (class : Class) (n j : ℕ) (cell : Cell)
      → outputs_in (class_parts net n class (placed cell None j)).pieces ≡ 0
  unshaped_outputs net (GateClass kind) n j cell = plain_outputs (gate_parts n cell kind).pieces (tt, tt)
  unshaped_outputs net (Register kind) n j cell =
      let pieces : List Piece =
      (register_parts net n (signal_of cell (codes "Q"), false) (register_of cell kind)
      (of_signal (signal_of cell (codes "D")))).pieces in
      plain_outputs pieces (none_of_register net n (signal_of cell (codes "Q"), false) (register_of cell kind)
      (of_signal (signal_of cell (codes "D"))))
  unshaped_outputs net Memory n j cell = refl
  unshaped_outputs net Scope n j cell = refl
  unshaped_outputs net Asynchronous n j cell = refl
  unshaped_outputs net NotFine n j cell = refl
  unshaped_outputs net Unknown n j cell = refl

  few_where_none : (pieces : List Piece) (n : ℕ) → outputs_in pieces ≡ 0 → outputs_in pieces ≤ n
  few_where_none pieces n none = omega (arith, none)

  shaped_outputs : (net : Net) (class : Class) (n j : ℕ) (cell : Cell) (shape : MemShape) → HasWidth j shape
      → outputs_in (class_parts net n class (placed cell (Some shape) j)).pieces ≤ read_bits shape
  shaped_outputs net (GateClass kind) n j cell shape wide =
      few_where_none (gate_parts n cell kind).pieces (read_bits shape)
      (plain_outputs (gate_parts n cell kind).pieces (tt, tt))
  shaped_outputs net (Register kind) n j cell shape wide =
      let pieces : List Piece =
      (register_parts net n (signal_of cell (codes "Q"), false) (register_of cell kind)
      (of_signal (signal_of cell (codes "D")))).pieces in
      few_where_none pieces (read_bits shape) (plain_outputs pieces (none_of_register net n (signal_of cell (codes "Q"), false)
      (register_of cell kind) (of_signal (signal_of cell (codes "D")))))
  shaped_outputs net Memory n j cell shape wide =
      let same = memory_outputs net j cell shape wide n in omega (arith, same)
  shaped_outputs net Scope n j cell shape wide = few_where_none [] (read_bits shape) refl
  shaped_outputs net Asynchronous n j cell shape wide = few_where_none [] (read_bits shape) refl
  shaped_outputs net NotFine n j cell shape wide = few_where_none [] (read_bits shape) refl
  shaped_outputs net Unknown n j cell shape wide = few_where_none [] (read_bits shape) refl

  -- a placed cell with a shape
  abbrev pub PlacedHasWidth : Placed → Type 0
  PlacedHasWidth c = (shape : MemShape) → c.shape ≡ Some shape → HasWidth c.memory shape

  cells_outputs : (net : Net) (n j : ℕ) (cells : List Cell) (shapes : List (Option MemShape))
      → AllByRecursion PlacedHasWidth (placed_from j cells shapes)
      → outputs_in (in_turn (cell_parts net) n (placed_from j cells shapes)).pieces ≤ sum_by read_bits (shapes_in shapes)
  cells_outputs net n j [] shapes wide = omega arith
  cells_outputs net n j (c ∷ cells) [] wide = omega arith
  cells_outputs net n j (c ∷ cells) (None ∷ shapes) wide =
      let here : List Piece = (cell_parts net n (placed c None j)).pieces in
      let both = outputs_join here (in_turn (cell_parts net) (n + length here) (placed_from j cells shapes)).pieces in
      let first = unshaped_outputs net c.class n j c in
      let rest = cells_outputs net (n + length here) j cells shapes wide.1 in
      omega (arith, both, first, rest)
  cells_outputs net n j (c ∷ cells) (Some s ∷ shapes) wide =
      let here : List Piece = (cell_parts net n (placed c (Some s) j)).pieces in
      let both =
      outputs_join here (in_turn (cell_parts net) (n + length here) (placed_from (j + 1) cells shapes)).pieces in
      let first = shaped_outputs net c.class n j c s (wide.0 s refl) in
      let rest = cells_outputs net (n + length here) (j + 1) cells shapes wide.1 in
      let all = sum_by-cons read_bits s (shapes_in shapes) in
      omega (arith, both, first, rest, all)

  -- ---- of a netlist

  parts_outputs : (net : Net) → AllByRecursion PlacedHasWidth (placed_cells net)
      → outputs_in (parts_of net).pieces ≤ sum_by read_bits (shapes_in net.shapes)
  unfolding parts_of
  parts_outputs net wide =
      let n : ℕ = length (port_parts net).pieces in
      let both = outputs_join (port_parts net).pieces (in_turn (cell_parts net) n (placed_cells net)).pieces in
      let none = plain_outputs (port_parts net).pieces (none_of_ports net) in
      let cells = cells_outputs net n 0 net.cells net.shapes wide in
      omega (arith, both, none, cells)

  all_outputs : (net : Net) → AllByRecursion PlacedHasWidth (placed_cells net)
      → outputs_in (pieces_of net ++ constants net) ≤ sum_by read_bits (shapes_in net.shapes)
  all_outputs net wide =
      let buffers : List Piece = map buffer (wiring_of net).rings in
      let last = outputs_join (pieces_of net) (constants net) in
      let both = outputs_join (parts_of net).pieces buffers in
      let none = plain_outputs buffers (none_of_buffers (wiring_of net).rings) in
      let none_too = plain_outputs (constants net) (none_of_constants (is_used net false) (is_used net true)) in
      let parts = parts_outputs net wide in
      omega (arith, last, both, none, none_too, parts)

-- the memories of the draft have the widths of their shapes
all_wide : (net : Net) → IsWellFormed net → AllByRecursion (PlacedHasWidth (draft_of net).memories) (placed_cells net)
all_wide net w = all_by_place (PlacedHasWidth (draft_of net).memories) (placed_cells net) (λ k c at shape is.
    let own = words_of net w k c shape at is in ap word_bits (memory_at net k c shape own.0 at is own.1))

-- Reads have few outputs in all
pub few_outputs : (net : Net) → IsWellFormed net
    → sum_by (read_width (draft_of net).memories) (kinds_of (pieces_of net ++ constants net)) ≤ 4194304
few_outputs net w =
    let all = all_outputs (draft_of net).memories net (all_wide net w) in
    let few = (has_few net w).read in
    let same = sum-map read_bits (shapes_in net.shapes) in
    omega (arith, all, few, same)
