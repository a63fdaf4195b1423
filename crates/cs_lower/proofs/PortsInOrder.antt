-- The read and write ports among a netlist's vertices are numbered in order, memory by memory.
use Rattle.std.specs.Prelude.{if◌then◌else◌}
use Rattle.std.proofs.Common.{◌≡◌, ℕ, zero, suc, ◌+◌, ◌≤◌, Bool, true, false, List, [], ◌∷◌, ◌++◌, length, map, Option, Some, None, codes, refl, sym, ap, subst, arith, get_or}
use Rattle.std.specs.List.{AllByRecursion, enumerate_from}
use Rattle.std.proofs.lemmas.List.{map-append}
use Rattle.cs_base.specs.declared.signal.Signal.{Signal}
use Rattle.cs_cells.specs.declared.class.Class.{Class}
use Rattle.cs_cells.specs.declared.class.Class.TheVariants.{Asynchronous, Gate as GateClass, Memory, NotFine, Register, Scope, Unknown}
use Rattle.cs_cells.specs.declared.gate.Kind.TheVariants.{Mux}
use Rattle.cs_cells.specs.declared.memory.MemShape.{MemShape}
use Rattle.cs_cells.specs.declared.memory.ReadShape.{ReadShape}
use Rattle.cs_graph.specs.declared.vertex.VertexKind.{VertexKind}
use Rattle.cs_graph.specs.declared.vertex.VertexKind.TheVariants.{Constant, Gate, Input, Output, Read, Write}
use Rattle.cs_modules.specs.Pins.{count_from}
use Rattle.cs_net.specs.declared.netlist.Cell.{Cell}
use Rattle.cs_net.specs.Drivers.{StateElement, data_inputs, data_outputs, read_data, read_element, register_of, signal_of}
use Rattle.cs_net.specs.Netlist.{Net}
use Rattle.cs_net.proofs.Members.{append_all}
use Rattle.cs_lower.specs.Cells.{cell_parts, class_parts, data_parts, held_parts, memory_parts, placed_cells, read_parts, read_wires, write_parts, write_piece}
use Rattle.cs_lower.specs.Lowered.{buffer, constants, is_used, pieces_of, wiring_of}
use Rattle.cs_lower.specs.Registers.{register_chain, register_parts}
use Rattle.cs_lower.specs.declared.taps.Tap.{Tap}
use Rattle.cs_lower.specs.declared.taps.Tap.TheVariants.{Signal as of_signal, Vertex as of_vertex}
use Rattle.cs_lower.specs.declared.taps.Piece.{Piece}
use Rattle.cs_lower.specs.declared.taps.Parts.{Parts}
use Rattle.cs_lower.specs.Taps.{in_turn, piece}
use Rattle.cs_lower.specs.Wires.{input_parts, output_parts, parts_of, port_parts}
use Rattle.cs_lower.proofs.PlacedCells.{placed, placed_from}
use Rattle.cs_lower.proofs.PortNumbers.{AreNext, HasNoPort, HaveNoPorts, IsBelow, IsOfMemory, below_append, below_more, kinds_of, next_append, one_below, one_read, one_write, plain_below, plain_next, plain_of_memory, plain_reads, plain_writes, reads_append, reads_in, writes_append, writes_in}
use Rattle.cs_lower.proofs.TakenLemmas.{chain_muxes}

pub kinds_join : (xs ys : List Piece) → kinds_of (xs ++ ys) ≡ kinds_of xs ++ kinds_of ys
kinds_join xs ys = map-append (λ p. p.kind) xs ys

next_join : (before : List VertexKind) (xs ys : List Piece) → AreNext before (kinds_of xs)
    → AreNext (before ++ kinds_of xs) (kinds_of ys) → AreNext before (kinds_of (xs ++ ys))
next_join before xs ys first rest =
    subst (AreNext before) (sym (kinds_join xs ys)) (next_append before (kinds_of xs) (kinds_of ys) first rest)

-- ---- vertices without ports

none_of_muxes : (pieces : List Piece) → AllByRecursion (λ p. p.kind ≡ Gate Mux) pieces → HaveNoPorts pieces
none_of_muxes [] muxes = tt
none_of_muxes (p ∷ pieces) muxes = (subst HasNoPort (sym muxes.0) tt, none_of_muxes pieces muxes.1)

pub none_of_register : (net : Net) (n : ℕ) (q : Signal × Bool) (r : StateElement) (d : Tap)
    → HaveNoPorts (register_parts net n q r d).pieces
none_of_register net n q r d = none_of_muxes (register_chain net n q r d).pieces (chain_muxes net n q r d).muxes

none_in_turn : {A : Type 0} (parts : ℕ → A → Parts) (n : ℕ) (xs : List A)
    → ((k : ℕ) (x : A) → HaveNoPorts (parts k x).pieces) → HaveNoPorts (in_turn parts n xs).pieces
none_in_turn parts n [] each = tt
none_in_turn parts n (x ∷ xs) each =
    append_all (λ p. HasNoPort p.kind) (parts n x).pieces (in_turn parts (n + length (parts n x).pieces) xs).pieces
    (each n x) (none_in_turn parts (n + length (parts n x).pieces) xs each)

pub none_of_data : (net : Net) (cell : Cell) (shape : MemShape) (read : ℕ × ReadShape) (v : ℕ)
    → HaveNoPorts (data_parts net cell shape read v).pieces
none_of_data net cell shape read v = by read.1.clocked
  where
    by : (clocked : Bool) → HaveNoPorts (if clocked
        then in_turn (held_parts net cell shape read v) (v + 1) (read_data cell shape read.0)
        else read_wires v (read_data cell shape read.0)).pieces
    by true = none_in_turn (held_parts net cell shape read v) (v + 1) (read_data cell shape read.0)
        (λ k e. none_of_register net k (e.1, get_or read.1.start e.0 false) (read_element cell shape read.1 read.0 e.0) (of_vertex v e.0))
    by false = tt

none_of_inputs : (signals : List Signal) → HaveNoPorts (map (λ s. piece Input []) signals)
none_of_inputs [] = tt
none_of_inputs (s ∷ signals) = (tt, none_of_inputs signals)

none_of_outputs : (signals : List Signal) → HaveNoPorts (map (λ s. piece Output (of_signal s ∷ [])) signals)
none_of_outputs [] = tt
none_of_outputs (s ∷ signals) = (tt, none_of_outputs signals)

pub none_of_ports : (net : Net) → HaveNoPorts (port_parts net).pieces
none_of_ports net =
    append_all (λ p. HasNoPort p.kind) (input_parts net).pieces (output_parts net).pieces
    (tt, none_of_inputs (data_inputs net)) (none_of_outputs (data_outputs net))

pub none_of_buffers : (bits : List ℕ) → HaveNoPorts (map buffer bits)
none_of_buffers [] = tt
none_of_buffers (b ∷ bits) = (tt, none_of_buffers bits)

pub none_of_constants : (low high : Bool) → HaveNoPorts
    ((if low then piece (Constant false) [] ∷ [] else []) ++ (if high then piece (Constant true) [] ∷ [] else []))
none_of_constants true true = (tt, (tt, tt))
none_of_constants true false = (tt, tt)
none_of_constants false true = (tt, tt)
none_of_constants false false = tt

-- ---- the ports of one memory

module _ (net : Net) (memory : ℕ) (cell : Cell) (shape : MemShape) where
  -- read ports, numbered on
  record ReadsGoOn (before : List VertexKind) (pieces : List Piece) : Type 0 where
    next : AreNext before (kinds_of pieces)
    writes : writes_in memory (kinds_of pieces) ≡ 0
    of : AllByRecursion (λ p. IsOfMemory memory p.kind) pieces

  one_goes_on : (k : ℕ) (read : ReadShape) (v : ℕ) (before : List VertexKind) → reads_in memory before ≡ k
      → ReadsGoOn before (read_parts net memory cell shape v (k, read)).pieces
  one_goes_on k read v before count =
      let rest : List Piece = (data_parts net cell shape (k, read) v).pieces in
      let none : HaveNoPorts rest = none_of_data net cell shape (k, read) v in
      let more = writes_append memory (Read memory k ∷ []) (kinds_of rest) in
      let first = plain_writes memory (piece (Constant false) [] ∷ []) (tt, tt) in
      let others = plain_writes memory rest none in
      record {
        next = (sym count, plain_next (before ++ Read memory k ∷ []) rest none);
        writes = omega (arith, more, first, others);
        of = (refl, plain_of_memory memory rest none);
      }

  one_more_read : (k : ℕ) (read : ReadShape) (v : ℕ) (before : List VertexKind) → reads_in memory before ≡ k
      → reads_in memory (before ++ kinds_of (read_parts net memory cell shape v (k, read)).pieces) ≡ k + 1
  one_more_read k read v before count =
      let rest : List Piece = (data_parts net cell shape (k, read) v).pieces in
      let both = reads_append memory before (Read memory k ∷ kinds_of rest) in
      let here = reads_append memory (Read memory k ∷ []) (kinds_of rest) in
      let one = one_read memory k in
      let none = plain_reads memory rest (none_of_data net cell shape (k, read) v) in
      omega (arith, count, both, here, one, none)

  reads_go_on : (k n : ℕ) (reads : List ReadShape) (before : List VertexKind) → reads_in memory before ≡ k
      → ReadsGoOn before (in_turn (read_parts net memory cell shape) n (enumerate_from k reads)).pieces
  reads_go_on k n [] before count = record { next = tt; writes = refl; of = tt }
  reads_go_on k n (read ∷ reads) before count =
      let here : List Piece = (read_parts net memory cell shape n (k, read)).pieces in
      let rest : List Piece =
      (in_turn (read_parts net memory cell shape) (n + length here) (enumerate_from (k + 1) reads)).pieces in
      let first : ReadsGoOn before here = one_goes_on k read n before count in
      let others : ReadsGoOn (before ++ kinds_of here) rest =
      reads_go_on (k + 1) (n + length here) reads (before ++ kinds_of here) (one_more_read k read n before count) in
      let joined = ap (writes_in memory) (kinds_join here rest) in
      let both = writes_append memory (kinds_of here) (kinds_of rest) in
      let left = first.writes in
      let right = others.writes in
      record {
        next = next_join before here rest first.next others.next;
        writes = omega (arith, joined, both, left, right);
        of = append_all (λ p. IsOfMemory memory p.kind) here rest first.of others.of;
      }

  writes_go_on : (k count : ℕ) (before : List VertexKind) → writes_in memory before ≡ k
      → AreNext before (kinds_of (map (write_piece memory cell shape) (count_from k count)))
  writes_go_on k zero before is = tt
  writes_go_on k (suc count) before is =
      let both = writes_append memory before (Write memory k ∷ []) in
      let one = one_write memory k in
      (sym is, writes_go_on (k + 1) count (before ++ Write memory k ∷ []) (omega (arith, is, both, one)))

  writes_of_memory : (ports : List ℕ)
      → AllByRecursion (λ p. IsOfMemory memory p.kind) (map (write_piece memory cell shape) ports)
  writes_of_memory [] = tt
  writes_of_memory (port ∷ ports) = (refl, writes_of_memory ports)

-- ---- cells

-- these go on behind others, and together they have ports of the memories before j alone
record GoesOn (before : List VertexKind) (pieces : List Piece) (j : ℕ) : Type 0 where
  next : AreNext before (kinds_of pieces)
  below : IsBelow j (before ++ kinds_of pieces)

plain_goes_on : (before : List VertexKind) (pieces : List Piece) (i j : ℕ) → i ≤ j → IsBelow i before
    → HaveNoPorts pieces → GoesOn before pieces j
plain_goes_on before pieces i j most below none = record {
  next = plain_next before pieces none;
  below = below_append j before (kinds_of pieces) (below_more i j before most below) (plain_below j pieces none);
}

memory_goes_on : (net : Net) (n memory : ℕ) (cell : Cell) (shape : MemShape) (before : List VertexKind)
    → IsBelow memory before → GoesOn before (memory_parts net n memory cell (Some shape)).pieces (memory + 1)
memory_goes_on net n memory cell shape before below =
    let reads : List Piece = (in_turn (read_parts net memory cell shape) n (enumerate_from 0 shape.reads)).pieces in
    let writes : List Piece = (write_parts memory cell shape).pieces in
    let first = reads_go_on net memory cell shape 0 n shape.reads before (below.reads memory (omega arith)) in
    let both = writes_append memory before (kinds_of reads) in
    let left = below.writes memory (omega arith) in
    let right = first.writes in
    record {
      next = next_join before reads writes first.next
          (writes_go_on net memory cell shape 0 shape.writes (before ++ kinds_of reads)
          (omega (arith, both, left, right)));
      below = below_append (memory + 1) before (kinds_of (reads ++ writes))
          (below_more memory (memory + 1) before (omega arith) below)
          (one_below memory (reads ++ writes)
          (append_all (λ p. IsOfMemory memory p.kind) reads writes first.of
          (writes_of_memory net memory cell shape (count_from 0 shape.writes))));
    }

unshaped_goes_on : (net : Net) (class : Class) (n j : ℕ) (cell : Cell) (before : List VertexKind) → IsBelow j before
    → GoesOn before (class_parts net n class (placed cell None j)).pieces j
unshaped_goes_on net (GateClass kind) n j cell before below = plain_goes_on before _ j j (omega arith) below (tt, tt)
unshaped_goes_on net (Register kind) n j cell before below =
    plain_goes_on before _ j j (omega arith) below
    (none_of_register net n (signal_of cell (codes "Q"), false) (register_of cell kind)
    (of_signal (signal_of cell (codes "D"))))
unshaped_goes_on net Memory n j cell before below = plain_goes_on before [] j j (omega arith) below tt
unshaped_goes_on net Scope n j cell before below = plain_goes_on before [] j j (omega arith) below tt
unshaped_goes_on net Asynchronous n j cell before below = plain_goes_on before [] j j (omega arith) below tt
unshaped_goes_on net NotFine n j cell before below = plain_goes_on before [] j j (omega arith) below tt
unshaped_goes_on net Unknown n j cell before below = plain_goes_on before [] j j (omega arith) below tt

shaped_goes_on : (net : Net) (class : Class) (n j : ℕ) (cell : Cell) (shape : MemShape) (before : List VertexKind)
    → IsBelow j before → GoesOn before (class_parts net n class (placed cell (Some shape) j)).pieces (j + 1)
shaped_goes_on net (GateClass kind) n j cell shape before below =
    plain_goes_on before _ j (j + 1) (omega arith) below (tt, tt)
shaped_goes_on net (Register kind) n j cell shape before below =
    plain_goes_on before _ j (j + 1) (omega arith) below
    (none_of_register net n (signal_of cell (codes "Q"), false) (register_of cell kind)
    (of_signal (signal_of cell (codes "D"))))
shaped_goes_on net Memory n j cell shape before below = memory_goes_on net n j cell shape before below
shaped_goes_on net Scope n j cell shape before below = plain_goes_on before [] j (j + 1) (omega arith) below tt
shaped_goes_on net Asynchronous n j cell shape before below = plain_goes_on before [] j (j + 1) (omega arith) below tt
shaped_goes_on net NotFine n j cell shape before below = plain_goes_on before [] j (j + 1) (omega arith) below tt
shaped_goes_on net Unknown n j cell shape before below = plain_goes_on before [] j (j + 1) (omega arith) below tt

cells_go_on : (net : Net) (n j : ℕ) (cells : List Cell) (shapes : List (Option MemShape)) (before : List VertexKind)
    → IsBelow j before → AreNext before (kinds_of (in_turn (cell_parts net) n (placed_from j cells shapes)).pieces)
cells_go_on net n j [] shapes before below = tt
cells_go_on net n j (c ∷ cells) [] before below = tt
cells_go_on net n j (c ∷ cells) (None ∷ shapes) before below =
    let here : List Piece = (cell_parts net n (placed c None j)).pieces in
    let first = unshaped_goes_on net c.class n j c before below in
    next_join before here (in_turn (cell_parts net) (n + length here) (placed_from j cells shapes)).pieces first.next
    (cells_go_on net (n + length here) j cells shapes (before ++ kinds_of here) first.below)
cells_go_on net n j (c ∷ cells) (Some s ∷ shapes) before below =
    let here : List Piece = (cell_parts net n (placed c (Some s) j)).pieces in
    let first = shaped_goes_on net c.class n j c s before below in
    next_join before here (in_turn (cell_parts net) (n + length here) (placed_from (j + 1) cells shapes)).pieces
    first.next
    (cells_go_on net (n + length here) (j + 1) cells shapes (before ++ kinds_of here) first.below)

-- ---- of a netlist

parts_next : (net : Net) → AreNext [] (kinds_of (parts_of net).pieces)
unfolding parts_of
parts_next net =
    let n : ℕ = length (port_parts net).pieces in
    let first : List Piece = (port_parts net).pieces in
    next_join [] first (in_turn (cell_parts net) n (placed_cells net)).pieces (plain_next [] first (none_of_ports net))
    (cells_go_on net n 0 net.cells net.shapes (kinds_of first) (plain_below 0 first (none_of_ports net)))

-- the ports of all memories are numbered in the order of the vertices
pub all_next : (net : Net) → AreNext [] (kinds_of (pieces_of net ++ constants net))
all_next net =
    let parts : List Piece = (parts_of net).pieces in
    let buffers : List Piece = map buffer (wiring_of net).rings in
    next_join [] (pieces_of net) (constants net)
    (next_join [] parts buffers (parts_next net)
    (plain_next (kinds_of parts) buffers (none_of_buffers (wiring_of net).rings)))
    (plain_next (kinds_of (pieces_of net)) (constants net) (none_of_constants (is_used net false) (is_used net true)))
