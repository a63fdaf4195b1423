-- No register of a netlist takes what the tap of a register is.
use Rattle.std.specs.Prelude.{if◌then◌else◌}
use Rattle.std.proofs.Common.{ℕ, ◌+◌, Bool, true, false, List, [], ◌∷◌, length, map, Option, Some, None, codes, get_or}
use Rattle.std.specs.List.{enumerate_from}
use Rattle.cs_base.specs.declared.signal.Signal.{Signal}
use Rattle.cs_cells.specs.declared.class.Class.{Class}
use Rattle.cs_cells.specs.declared.class.Class.TheVariants.{Asynchronous, Gate, Memory, NotFine, Register, Scope, Unknown}
use Rattle.cs_cells.specs.declared.memory.MemShape.{MemShape}
use Rattle.cs_cells.specs.declared.memory.ReadShape.{ReadShape}
use Rattle.cs_cells.specs.declared.register.ResetKind.{ResetKind}
use Rattle.cs_net.specs.declared.netlist.Cell.{Cell}
use Rattle.cs_net.specs.Drivers.{StateElement, data_inputs, read_data, read_element, register_of, signal_of}
use Rattle.cs_net.specs.Netlist.{Net}
use Rattle.cs_lower.specs.Cells.{Datum, Placed, cell_parts, class_parts, data_parts, held_parts, memory_parts, placed_cells, read_parts, read_wires}
use Rattle.cs_lower.specs.Registers.{Chain, always, held_tap, mux, never, register_chain, register_parts, still, with_enable, with_piece, with_reset}
use Rattle.cs_lower.specs.declared.taps.Tap.{Tap}
use Rattle.cs_lower.specs.declared.taps.Tap.TheVariants.{Constant as of_bit, Signal as of_signal, Vertex as of_vertex}
use Rattle.cs_lower.specs.declared.taps.Wire.TheVariants.{Vertex as from_vertex}
use Rattle.cs_lower.specs.declared.taps.Piece.{Piece}
use Rattle.cs_lower.specs.declared.taps.Parts.{Parts}
use Rattle.cs_lower.specs.Taps.{in_turn}
use Rattle.cs_lower.specs.Wires.{input_parts, parts_of, port_parts}
use Rattle.cs_lower.proofs.PlainWires.{ArePlain, IsPlain, plain_append}

-- ---- parts that follow one another

pub plain_in_turn : {A : Type 0} (parts : ℕ → A → Parts) (n : ℕ) (xs : List A)
    → ((k : ℕ) (x : A) → ArePlain (parts k x).wires) → ArePlain (in_turn parts n xs).wires
plain_in_turn parts n [] each = tt
plain_in_turn parts n (x ∷ xs) each =
    plain_append (parts n x).wires (in_turn parts (n + length (parts n x).pieces) xs).wires (each n x)
    (plain_in_turn parts (n + length (parts n x).pieces) xs each)

plain_inputs : (k : ℕ) (signals : List Signal)
    → ArePlain (map (λ e. (e.1, from_vertex e.0 0)) (enumerate_from k signals))
plain_inputs k [] = tt
plain_inputs k (s ∷ signals) = (tt, plain_inputs (k + 1) signals)

-- ---- registers

plain_piece : (c : Chain) (p : Piece) → IsPlain (with_piece c p).last
plain_piece c p = tt

plain_enable : (net : Net) (held : Tap) (enable : Option Bool) (e : Signal) (c : Chain) → IsPlain c.last
    → IsPlain (with_enable net held enable e c).last
plain_enable net held None e c plain = plain
plain_enable net held (Some high) e c plain = by (always high (still net e)) (mux high held c.last e)
  where
    by : (out : Bool) (p : Piece) → IsPlain (if out then c else with_piece c p).last
    by true p = plain
    by false p = tt

plain_reset : (net : Net) (reset : Option ResetKind) (r : Signal) (c : Chain) → IsPlain c.last
    → IsPlain (with_reset net reset r c).last
plain_reset net None r c plain = plain
plain_reset net (Some reset) r c plain =
    by (never reset.high (still net r)) (mux reset.high c.last (of_bit reset.value) r)
  where
    by : (out : Bool) (p : Piece) → IsPlain (if out then c else with_piece c p).last
    by true p = plain
    by false p = tt

plain_chain : (net : Net) (n : ℕ) (q : Signal × Bool) (r : StateElement) (d : Tap) → IsPlain d
    → IsPlain (register_chain net n q r d).last
plain_chain net n q r d plain = by r.kind.enable_over_reset
  where
    at_d : Chain
    at_d = record {
      first = n;
      pieces = [];
      last = d;
    }

    by : (over : Bool) → IsPlain (if over
        then with_enable net (held_tap net n q r) r.kind.enable r.enable (with_reset net r.kind.reset r.reset at_d)
        else with_reset net r.kind.reset r.reset (with_enable net (held_tap net n q r) r.kind.enable r.enable at_d)).last
    by true = plain_enable net (held_tap net n q r) r.kind.enable r.enable (with_reset net r.kind.reset r.reset at_d)
        (plain_reset net r.kind.reset r.reset at_d plain)
    by false = plain_reset net r.kind.reset r.reset (with_enable net (held_tap net n q r) r.kind.enable r.enable at_d)
        (plain_enable net (held_tap net n q r) r.kind.enable r.enable at_d plain)

plain_register : (net : Net) (n : ℕ) (q : Signal × Bool) (r : StateElement) (d : Tap) → IsPlain d
    → ArePlain (register_parts net n q r d).wires
plain_register net n q r d plain = (plain_chain net n q r d plain, tt)

-- ---- memories

plain_read : (v : ℕ) (bits : List Datum) → ArePlain (read_wires v bits).wires
plain_read v [] = tt
plain_read v (e ∷ bits) = (tt, plain_read v bits)

plain_data : (net : Net) (cell : Cell) (shape : MemShape) (read : ℕ × ReadShape) (v : ℕ)
    → ArePlain (data_parts net cell shape read v).wires
plain_data net cell shape read v = by read.1.clocked
  where
    by : (clocked : Bool) → ArePlain (if clocked
        then in_turn (held_parts net cell shape read v) (v + 1) (read_data cell shape read.0)
        else read_wires v (read_data cell shape read.0)).wires
    by true = plain_in_turn (held_parts net cell shape read v) (v + 1) (read_data cell shape read.0)
        (λ k e. plain_register net k (e.1, get_or read.1.start e.0 false) (read_element cell shape read.1 read.0 e.0) (of_vertex v e.0) tt)
    by false = plain_read v (read_data cell shape read.0)

plain_memory : (net : Net) (n memory : ℕ) (cell : Cell) (shape : Option MemShape)
    → ArePlain (memory_parts net n memory cell shape).wires
plain_memory net n memory cell None = tt
plain_memory net n memory cell (Some shape) =
    plain_append (in_turn (read_parts net memory cell shape) n (enumerate_from 0 shape.reads)).wires []
    (plain_in_turn (read_parts net memory cell shape) n (enumerate_from 0 shape.reads)
    (λ v read. plain_data net cell shape read v)) tt

-- ---- all cells

plain_class : (net : Net) (n : ℕ) (class : Class) (c : Placed) → ArePlain (class_parts net n class c).wires
plain_class net n (Gate kind) c = (tt, tt)
plain_class net n (Register kind) c = plain_register net n (signal_of c.cell (codes "Q"), false) (register_of c.cell kind)
    (of_signal (signal_of c.cell (codes "D"))) tt
plain_class net n Memory c = plain_memory net n c.memory c.cell c.shape
plain_class net n Scope c = tt
plain_class net n Asynchronous c = tt
plain_class net n NotFine c = tt
plain_class net n Unknown c = tt

plain_ports : (net : Net) → ArePlain (port_parts net).wires
plain_ports net = plain_append (input_parts net).wires [] (plain_inputs 1 (data_inputs net)) tt

pub plain_parts : (net : Net) → ArePlain (parts_of net).wires
unfolding parts_of
plain_parts net =
    plain_append (port_parts net).wires
    (in_turn (cell_parts net) (length (port_parts net).pieces) (placed_cells net)).wires (plain_ports net)
    (plain_in_turn (cell_parts net) (length (port_parts net).pieces) (placed_cells net)
    (λ n c. plain_class net n c.cell.class c))
