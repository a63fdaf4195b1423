-- The vertices of cells fit, where memories have the sizes of their cells' shapes.
use Rattle.std.specs.Prelude.{if◌then◌else◌, slice_get}
use Rattle.std.proofs.Common.{◌≡◌, ℕ, zero, suc, ◌+◌, ◌*◌, ◌<◌, ◌≤◌, Bool, true, false, List, [], ◌∷◌, ◌++◌, length, map, Option, Some, None, codes, refl, sym, ◌∙◌, arith, length-append, get_or}
use Rattle.std.specs.List.{AllByRecursion, enumerate_from}
use Rattle.std.proofs.lemmas.List.{length-map}
use Rattle.cs_base.specs.declared.signal.Signal.{Signal}
use Rattle.cs_cells.specs.declared.class.Class.{Class}
use Rattle.cs_cells.specs.declared.class.Class.TheVariants.{Asynchronous, Gate as GateClass, Memory, NotFine, Register, Scope, Unknown}
use Rattle.cs_cells.specs.declared.gate.Kind.{Kind}
use Rattle.cs_cells.specs.declared.memory.MemShape.{MemShape}
use Rattle.cs_cells.specs.declared.memory.ReadShape.{ReadShape}
use Rattle.cs_cells.specs.Gates.{pin_count, pin_name}
use Rattle.cs_graph.specs.declared.vertex.VertexKind.TheVariants.{Gate, Read}
use Rattle.cs_graph.specs.Kinds.{address_bits, word_bits}
use Rattle.cs_modules.specs.Pins.{count_from}
use Rattle.cs_net.specs.declared.netlist.Cell.{Cell}
use Rattle.cs_net.specs.Drivers.{bits_of, port_part, read_data, read_element, register_of, signal_of}
use Rattle.cs_net.specs.Netlist.{Net}
use Rattle.cs_net.proofs.PinWidths.{length-count_from}
use Rattle.cs_lower.specs.Cells.{Placed, cell_parts, class_parts, data_parts, gate_parts, held_parts, memory_parts, read_parts, read_wires, write_parts, write_piece}
use Rattle.cs_lower.specs.Lowered.{draft_of}
use Rattle.cs_lower.specs.declared.taps.Tap.TheVariants.{Signal as of_signal, Vertex as of_vertex}
use Rattle.cs_lower.specs.declared.taps.Piece.{Piece}
use Rattle.cs_lower.specs.declared.taps.Parts.{Parts}
use Rattle.cs_lower.specs.Taps.{in_turn, piece}
use Rattle.cs_lower.specs.Wires.{parts_of}
use Rattle.cs_lower.proofs.FittingParts.{FitFrom, Fits, Gives, IsBefore, IsThere, PartsFit, fit_both, fit_in_turn, register_fits, signals_before}
use Rattle.cs_lower.proofs.MatchLists.{StandsIn}
use Rattle.cs_lower.proofs.StandLemmas.{part_first, part_left, part_next}
use Rattle.cs_lower.proofs.WriteValues.{part_wide}

-- a memory of the draft has the sizes of this shape, and the pins of the cell are as wide as those
pub record HasSizes (net : Net) (memory : ℕ) (cell : Cell) (shape : MemShape) : Type 0 where
  pub there : memory < length (draft_of net).memories
  pub abits : address_bits (slice_get (draft_of net).memories memory) ≡ shape.abits
  pub width : word_bits (slice_get (draft_of net).memories memory) ≡ shape.width
  pub read_address : length (bits_of cell (codes "RD_ADDR")) ≡ length shape.reads * shape.abits
  pub read_words : length (bits_of cell (codes "RD_DATA")) ≡ length shape.reads * shape.width
  pub write_address : length (bits_of cell (codes "WR_ADDR")) ≡ shape.writes * shape.abits
  pub write_words : length (bits_of cell (codes "WR_DATA")) ≡ shape.writes * shape.width
  pub write_enables : length (bits_of cell (codes "WR_EN")) ≡ shape.writes * shape.width

-- ---- gates

gate_fits : (net : Net) (n : ℕ) (cell : Cell) (kind : Kind) → StandsIn net n (gate_parts n cell kind).pieces
    → PartsFit net n (gate_parts n cell kind)
gate_fits net n cell kind stands = record { pieces = (fits, tt); wires = (gives, tt) }
  where
    p : Piece
    p = record {
      kind = Gate kind;
      pins = map (λ i. of_signal (signal_of cell (pin_name kind i))) (count_from 0 (pin_count kind));
      origin = cell.name;
    }

    taps : (places : List ℕ)
        → AllByRecursion (IsBefore net n) (map (λ i. of_signal (signal_of cell (pin_name kind i))) places)
    taps [] = tt
    taps (i ∷ places) = (tt, taps places)

    fits : Fits net n p
    fits = record {
      count = length-map (count_from 0 (pin_count kind)) (λ i. of_signal (signal_of cell (pin_name kind i)))
          ∙ length-count_from 0 (pin_count kind);
      there = tt;
      taps = taps (count_from 0 (pin_count kind));
      host = λ is. cc;
    }

    gives : Gives net n 0
    gives = record {
      vertex = p;
      stands = part_first (parts_of net).pieces n p [] stands;
      among = omega arith;
    }

-- ---- memories

module _ (net : Net) (memory : ℕ) (cell : Cell) (shape : MemShape) (sizes : HasSizes net memory cell shape) where
  abbrev read_piece : ℕ → Piece
  read_piece port = piece (Read memory port) (map of_signal (port_part cell (codes "RD_ADDR") shape.abits port))

  read_piece_fits : (n port : ℕ) → port < length shape.reads → Fits net n (read_piece port)
  read_piece_fits n port below = record {
    count = length-map (port_part cell (codes "RD_ADDR") shape.abits port) of_signal
        ∙ part_wide cell (codes "RD_ADDR") shape.abits port (length shape.reads) sizes.read_address below
        ∙ sym sizes.abits;
    there = sizes.there;
    taps = signals_before net n (port_part cell (codes "RD_ADDR") shape.abits port);
    host = λ is. cc;
  }

  -- each bit of a word is an output of a Read of the memory
  read_gives : (v port o : ℕ) → slice_get (parts_of net).pieces v ≡ Some (read_piece port) → o < shape.width
      → Gives net v o
  read_gives v port o stands below = record {
    vertex = read_piece port;
    stands = stands;
    among = let is = sizes.width in omega (arith, below, is);
  }

  all_words : (v port k : ℕ) (signals : List Signal) → slice_get (parts_of net).pieces v ≡ Some (read_piece port)
      → k + length signals ≤ shape.width
      → AllByRecursion (λ w. IsThere net w.1) (read_wires v (enumerate_from k signals)).wires
  all_words v port k [] stands few = tt
  all_words v port k (s ∷ signals) stands few = (
    read_gives v port k stands (omega (arith, few)),
    all_words v port (k + 1) signals stands (omega (arith, few)),
  )

  all_held : (read : ℕ × ReadShape) (v k : ℕ) (signals : List Signal)
      → slice_get (parts_of net).pieces v ≡ Some (read_piece read.0) → k + length signals ≤ shape.width
      → AllByRecursion (λ e. (n : ℕ) → v + 1 ≤ n → StandsIn net n (held_parts net cell shape read v n e).pieces
      → PartsFit net n (held_parts net cell shape read v n e)) (enumerate_from k signals)
  all_held read v k [] stands few = tt
  all_held read v k (s ∷ signals) stands few = (
    λ n later here. register_fits net n (s, get_or read.1.start k false) (read_element cell shape read.1 read.0 k) (of_vertex v k)
        (omega (arith, later), read_gives v read.0 k stands (omega (arith, few))) here,
    all_held read v (k + 1) signals stands (omega (arith, few)),
  )

  data_fits : (read : ℕ × ReadShape) (v : ℕ) → slice_get (parts_of net).pieces v ≡ Some (read_piece read.0)
      → read.0 < length shape.reads → StandsIn net (v + 1) (data_parts net cell shape read v).pieces
      → PartsFit net (v + 1) (data_parts net cell shape read v)
  data_fits read v stands below after = by read.1.clocked after
    where
      signals : List Signal
      signals = port_part cell (codes "RD_DATA") shape.width read.0

      few : 0 + length signals ≤ shape.width
      few =
          let wide : length signals ≡ shape.width =
          part_wide cell (codes "RD_DATA") shape.width read.0 (length shape.reads) sizes.read_words below in
          omega (arith, wide)

      by : (clocked : Bool)
          → StandsIn net (v + 1) (if clocked
          then in_turn (held_parts net cell shape read v) (v + 1) (read_data cell shape read.0)
          else read_wires v (read_data cell shape read.0)).pieces
          → PartsFit net (v + 1) (if clocked
          then in_turn (held_parts net cell shape read v) (v + 1) (read_data cell shape read.0)
          else read_wires v (read_data cell shape read.0))
      by true here = fit_in_turn net (v + 1) (held_parts net cell shape read v) (v + 1) (read_data cell shape read.0)
          (omega arith) (all_held read v 0 signals stands few) here
      by false here = record { pieces = tt; wires = all_words v read.0 0 signals stands few }

  read_fits : (read : ℕ × ReadShape) (v : ℕ) → read.0 < length shape.reads
      → StandsIn net v (read_parts net memory cell shape v read).pieces
      → PartsFit net v (read_parts net memory cell shape v read)
  read_fits read v below stands =
      let p : Piece = read_piece read.0 in
      let rest : Parts = data_parts net cell shape read v in
      fit_both net v (record { pieces = p ∷ []; wires = [] }) rest
      (record { pieces = (read_piece_fits v read.0 below, tt); wires = tt })
      (data_fits read v (part_first (parts_of net).pieces v p rest.pieces stands) below
      (part_next (parts_of net).pieces v p rest.pieces stands))

  all_reads : (k : ℕ) (reads : List ReadShape) → k + length reads ≤ length shape.reads
      → AllByRecursion (λ read. (v : ℕ) → 0 ≤ v → StandsIn net v (read_parts net memory cell shape v read).pieces
      → PartsFit net v (read_parts net memory cell shape v read)) (enumerate_from k reads)
  all_reads k [] few = tt
  all_reads k (read ∷ reads) few = (
    λ v most stands. read_fits (k, read) v (omega (arith, few)) stands,
    all_reads (k + 1) reads (omega (arith, few)),
  )

  write_fits : (n port : ℕ) → port < shape.writes → Fits net n (write_piece memory cell shape port)
  write_fits n port below =
      let a : List Signal = port_part cell (codes "WR_ADDR") shape.abits port in
      let d : List Signal = port_part cell (codes "WR_DATA") shape.width port in
      let e : List Signal = port_part cell (codes "WR_EN") shape.width port in
      let address : length a ≡ shape.abits =
      part_wide cell (codes "WR_ADDR") shape.abits port shape.writes sizes.write_address below in
      let word : length d ≡ shape.width =
      part_wide cell (codes "WR_DATA") shape.width port shape.writes sizes.write_words below in
      let enables : length e ≡ shape.width =
      part_wide cell (codes "WR_EN") shape.width port shape.writes sizes.write_enables below in
      let all = length-map (a ++ d ++ e) of_signal in
      let both = length-append (a ++ d) e in
      let first = length-append a d in
      let narrow = sizes.abits in
      let wide = sizes.width in
      record {
        count = omega (arith, address, word, enables, all, both, first, narrow, wide);
        there = sizes.there;
        taps = signals_before net n (a ++ d ++ e);
        host = λ is. cc;
      }

  writes_fit : (n k count : ℕ) → k + count ≤ shape.writes
      → FitFrom net n (map (write_piece memory cell shape) (count_from k count))
  writes_fit n k zero few = tt
  writes_fit n k (suc count) few =
      (write_fits n k (omega (arith, few)), writes_fit (n + 1) (k + 1) count (omega (arith, few)))

  shaped_fits : (n : ℕ) → StandsIn net n (memory_parts net n memory cell (Some shape)).pieces
      → PartsFit net n (memory_parts net n memory cell (Some shape))
  shaped_fits n stands =
      let reads : Parts = in_turn (read_parts net memory cell shape) n (enumerate_from 0 shape.reads) in
      let writes : Parts = write_parts memory cell shape in
      fit_both net n reads writes
      (fit_in_turn net 0 (read_parts net memory cell shape) n (enumerate_from 0 shape.reads) (omega arith)
      (all_reads 0 shape.reads (omega arith)) (part_left (parts_of net).pieces n reads.pieces writes.pieces stands))
      (record { pieces = writes_fit (n + length reads.pieces) 0 shape.writes (omega arith); wires = tt })

-- ---- all cells

-- where the cell is a memory, the draft's memory of its number has its sizes
abbrev pub CellHasSizes : Net → Placed → Type 0
CellHasSizes net c =
    (shape : MemShape) → c.cell.class ≡ Memory → c.shape ≡ Some shape → HasSizes net c.memory c.cell shape

memory_fits : (net : Net) (n memory : ℕ) (cell : Cell) (shape : Option MemShape)
    → ((s : MemShape) → shape ≡ Some s → HasSizes net memory cell s)
    → StandsIn net n (memory_parts net n memory cell shape).pieces
    → PartsFit net n (memory_parts net n memory cell shape)
memory_fits net n memory cell None sizes stands = record { pieces = tt; wires = tt }
memory_fits net n memory cell (Some shape) sizes stands = shaped_fits net memory cell shape (sizes shape refl) n stands

class_fits : (net : Net) (class : Class) (c : Placed)
    → ((s : MemShape) → class ≡ Memory → c.shape ≡ Some s → HasSizes net c.memory c.cell s) → (n : ℕ)
    → StandsIn net n (class_parts net n class c).pieces → PartsFit net n (class_parts net n class c)
class_fits net (GateClass kind) c sizes n stands = gate_fits net n c.cell kind stands
class_fits net (Register kind) c sizes n stands =
    register_fits net n (signal_of c.cell (codes "Q"), false) (register_of c.cell kind)
    (of_signal (signal_of c.cell (codes "D"))) tt stands
class_fits net Memory c sizes n stands =
    memory_fits net n c.memory c.cell c.shape (λ s is. sizes s refl is) stands
class_fits net Scope c sizes n stands = record { pieces = tt; wires = tt }
class_fits net Asynchronous c sizes n stands = record { pieces = tt; wires = tt }
class_fits net NotFine c sizes n stands = record { pieces = tt; wires = tt }
class_fits net Unknown c sizes n stands = record { pieces = tt; wires = tt }

pub cell_fits : (net : Net) (c : Placed) → CellHasSizes net c → (n : ℕ) → StandsIn net n (cell_parts net n c).pieces
    → PartsFit net n (cell_parts net n c)
cell_fits net c sizes n stands = class_fits net c.cell.class c sizes n stands
