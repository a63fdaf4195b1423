-- Vertices without outputs: the data outputs come first, and then the write ports, memory by memory.
use Rattle.std.specs.Prelude.{if◌then◌else◌}
use Rattle.std.proofs.Common.{◌≡◌, ℕ, ◌+◌, Bool, true, false, List, [], ◌∷◌, ◌++◌, length, map, Option, Some, None, codes, flat_map, refl, ap, ap₂, ◌∙◌, get_or}
use Rattle.std.specs.List.{enumerate_from}
use Rattle.std.proofs.lemmas.Grind.{flat_map-append}
use Rattle.std.proofs.lemmas.List.{append-nil}
use Rattle.cs_base.specs.declared.signal.Signal.{Signal}
use Rattle.cs_cells.specs.declared.class.Class.{Class}
use Rattle.cs_cells.specs.declared.class.Class.TheVariants.{Asynchronous, Gate as GateClass, Memory, NotFine, Register, Scope, Unknown}
use Rattle.cs_cells.specs.declared.gate.Kind.{Kind}
use Rattle.cs_cells.specs.declared.gate.Kind.TheVariants.{Buf, Mux}
use Rattle.cs_cells.specs.declared.memory.MemShape.{MemShape}
use Rattle.cs_cells.specs.declared.memory.ReadShape.{ReadShape}
use Rattle.cs_cells.specs.declared.register.ResetKind.{ResetKind}
use Rattle.cs_graph.specs.declared.vertex.VertexKind.TheVariants.{Constant, Gate, Host, Input, Read}
use Rattle.cs_net.specs.declared.netlist.Cell.{Cell}
use Rattle.cs_net.specs.Drivers.{StateElement, data_inputs, port_part, read_data, read_element, register_of, signal_of}
use Rattle.cs_net.specs.Netlist.{Net}
use Rattle.cs_lower.specs.Cells.{Placed, cell_parts, class_parts, data_parts, held_parts, memory_parts, placed_cells, read_parts, read_wires, write_parts}
use Rattle.cs_lower.specs.Lowered.{buffer, constants, is_used, pieces_of, wiring_of}
use Rattle.cs_lower.specs.Registers.{Chain, always, held_tap, mux, never, register_chain, still, with_enable, with_piece, with_reset}
use Rattle.cs_lower.specs.declared.taps.Tap.{Tap}
use Rattle.cs_lower.specs.declared.taps.Tap.TheVariants.{Constant as of_bit, Signal as of_signal, Vertex as of_vertex}
use Rattle.cs_lower.specs.declared.taps.Piece.{Piece}
use Rattle.cs_lower.specs.declared.taps.Parts.{Parts}
use Rattle.cs_lower.specs.Taps.{in_turn, piece}
use Rattle.cs_lower.specs.Wires.{input_parts, output_parts, parts_of, port_parts}

-- ---- the write ports of a cell

abbrev pub write_pieces_of : ℕ → Cell → Option MemShape → List Piece
write_pieces_of memory cell None = []
write_pieces_of memory cell (Some shape) = (write_parts memory cell shape).pieces

abbrev pub class_write_pieces : Class → Placed → List Piece
class_write_pieces (GateClass kind) c = []
class_write_pieces (Register kind) c = []
class_write_pieces Memory c = write_pieces_of c.memory c.cell c.shape
class_write_pieces Scope c = []
class_write_pieces Asynchronous c = []
class_write_pieces NotFine c = []
class_write_pieces Unknown c = []

-- the write ports of a memory in order, and none of any other cell
abbrev pub write_pieces : Placed → List Piece
write_pieces c = class_write_pieces c.cell.class c

-- ---- what is made of ports and write ports alone, and of vertices without outputs alone

pub record IsOfPorts {B : Type 0} (made : Piece → List B) : Type 0 where
  pub constant : (b : Bool) → made (piece (Constant b) []) ≡ []
  pub gate : (kind : Kind) (pins : List Tap) (origin : List ℕ)
      → made (record { kind = Gate kind; pins = pins; origin = origin }) ≡ []
  pub read : (memory port : ℕ) (pins : List Tap) → made (piece (Read memory port) pins) ≡ []

pub record IsOfSinks {B : Type 0} (made : Piece → List B) : Type 0 where
  pub host : made (piece Host []) ≡ []
  pub input : made (piece Input []) ≡ []
  pub ports : IsOfPorts made

module _ {B : Type 0} (made : Piece → List B) (ports : IsOfPorts made) where
  -- nothing is made of these
  abbrev IsNone : List Piece → Type 0
  IsNone pieces = flat_map made pieces ≡ []

  none_append : (xs ys : List Piece) → IsNone xs → IsNone ys → IsNone (xs ++ ys)
  none_append xs ys none none' = flat_map-append made xs ys ∙ ap₂ (λ a b. a ++ b) none none'

  none_of_one : (p : Piece) → made p ≡ [] → IsNone (p ∷ [])
  none_of_one p none = ap (λ a. a ++ []) none

  -- what is made of each part in turn
  made_in_turn : {A : Type 0} (parts : ℕ → A → Parts) (each : A → List B) (n : ℕ) (xs : List A)
      → ((k : ℕ) (x : A) → flat_map made (parts k x).pieces ≡ each x)
      → flat_map made (in_turn parts n xs).pieces ≡ flat_map each xs
  made_in_turn parts each n [] is = refl
  made_in_turn parts each n (x ∷ xs) is =
      flat_map-append made (parts n x).pieces (in_turn parts (n + length (parts n x).pieces) xs).pieces
      ∙ ap₂ (λ a b. a ++ b) (is n x) (made_in_turn parts each (n + length (parts n x).pieces) xs is)

  none_of_all : {A : Type 0} (xs : List A) → flat_map {A = B} (λ x. []) xs ≡ []
  none_of_all [] = refl
  none_of_all (x ∷ xs) = none_of_all xs

  -- ---- registers

  none_enable : (net : Net) (held : Tap) (enable : Option Bool) (e : Signal) (c : Chain) → IsNone c.pieces
      → IsNone (with_enable net held enable e c).pieces
  none_enable net held None e c none = none
  none_enable net held (Some high) e c none = by (always high (still net e))
    where
      next : Piece
      next = mux high held c.last e

      by : (out : Bool) → IsNone (if out then c else with_piece c next).pieces
      by true = none
      by false = none_append c.pieces (next ∷ []) none (none_of_one next (ports.gate Mux next.pins []))

  none_reset : (net : Net) (reset : Option ResetKind) (r : Signal) (c : Chain) → IsNone c.pieces
      → IsNone (with_reset net reset r c).pieces
  none_reset net None r c none = none
  none_reset net (Some reset) r c none = by (never reset.high (still net r))
    where
      next : Piece
      next = mux reset.high c.last (of_bit reset.value) r

      by : (out : Bool) → IsNone (if out then c else with_piece c next).pieces
      by true = none
      by false = none_append c.pieces (next ∷ []) none (none_of_one next (ports.gate Mux next.pins []))

  none_chain : (net : Net) (n : ℕ) (q : Signal × Bool) (r : StateElement) (d : Tap)
      → IsNone (register_chain net n q r d).pieces
  none_chain net n q r d = by r.kind.enable_over_reset
    where
      at_d : Chain
      at_d = record {
        first = n;
        pieces = [];
        last = d;
      }

      by : (over : Bool) → IsNone (if over
          then with_enable net (held_tap net n q r) r.kind.enable r.enable (with_reset net r.kind.reset r.reset at_d)
          else with_reset net r.kind.reset r.reset (with_enable net (held_tap net n q r) r.kind.enable r.enable at_d)).pieces
      by true = none_enable net (held_tap net n q r) r.kind.enable r.enable (with_reset net r.kind.reset r.reset at_d)
          (none_reset net r.kind.reset r.reset at_d refl)
      by false = none_reset net r.kind.reset r.reset (with_enable net (held_tap net n q r) r.kind.enable r.enable at_d)
          (none_enable net (held_tap net n q r) r.kind.enable r.enable at_d refl)

  -- ---- memories

  none_data : (net : Net) (cell : Cell) (shape : MemShape) (read : ℕ × ReadShape) (v : ℕ)
      → IsNone (data_parts net cell shape read v).pieces
  none_data net cell shape read v = by read.1.clocked
    where
      by : (clocked : Bool) → IsNone (if clocked
          then in_turn (held_parts net cell shape read v) (v + 1) (read_data cell shape read.0)
          else read_wires v (read_data cell shape read.0)).pieces
      by true =
          made_in_turn (held_parts net cell shape read v) (λ e. []) (v + 1) (read_data cell shape read.0)
          (λ k e. none_chain net k (e.1, get_or read.1.start e.0 false) (read_element cell shape read.1 read.0 e.0) (of_vertex v e.0))
          ∙ none_of_all (read_data cell shape read.0)
      by false = refl

  none_read : (net : Net) (memory : ℕ) (cell : Cell) (shape : MemShape) (v : ℕ) (read : ℕ × ReadShape)
      → IsNone (read_parts net memory cell shape v read).pieces
  none_read net memory cell shape v read =
      none_append (port ∷ []) (data_parts net cell shape read v).pieces
      (none_of_one port (ports.read memory read.0 port.pins)) (none_data net cell shape read v)
    where
      port : Piece
      port = piece (Read memory read.0) (map of_signal (port_part cell (codes "RD_ADDR") shape.abits read.0))

  made_of_memory : (net : Net) (n memory : ℕ) (cell : Cell) (shape : Option MemShape)
      → flat_map made (memory_parts net n memory cell shape).pieces ≡ flat_map made (write_pieces_of memory cell shape)
  made_of_memory net n memory cell None = refl
  made_of_memory net n memory cell (Some shape) =
      flat_map-append made (in_turn (read_parts net memory cell shape) n (enumerate_from 0 shape.reads)).pieces
      (write_parts memory cell shape).pieces
      ∙ ap (λ a. a ++ flat_map made (write_parts memory cell shape).pieces)
      (made_in_turn (read_parts net memory cell shape) (λ read. []) n (enumerate_from 0 shape.reads)
      (λ v read. none_read net memory cell shape v read) ∙ none_of_all (enumerate_from 0 shape.reads))

  -- ---- cells

  made_of_class : (net : Net) (n : ℕ) (class : Class) (c : Placed)
      → flat_map made (class_parts net n class c).pieces ≡ flat_map made (class_write_pieces class c)
  made_of_class net n (GateClass kind) c = ap (λ a. a ++ []) (ports.gate kind _ c.cell.name)
  made_of_class net n (Register kind) c = none_chain net n (signal_of c.cell (codes "Q"), false) (register_of c.cell kind)
      (of_signal (signal_of c.cell (codes "D")))
  made_of_class net n Memory c = made_of_memory net n c.memory c.cell c.shape
  made_of_class net n Scope c = refl
  made_of_class net n Asynchronous c = refl
  made_of_class net n NotFine c = refl
  made_of_class net n Unknown c = refl

  made_of_cells : (net : Net) (n : ℕ) (cells : List Placed)
      → flat_map made (in_turn (cell_parts net) n cells).pieces ≡ flat_map (λ c. flat_map made (write_pieces c)) cells
  made_of_cells net n cells = made_in_turn (cell_parts net) (λ c. flat_map made (write_pieces c)) n cells
      (λ k c. made_of_class net k c.cell.class c)

  -- ---- all others

  none_of_buffers : (bits : List ℕ) → IsNone (map buffer bits)
  none_of_buffers [] = refl
  none_of_buffers (b ∷ bits) = ap₂ (λ a b. a ++ b) (ports.gate Buf (buffer b).pins []) (none_of_buffers bits)

  none_of_constants : (low high : Bool)
      → IsNone ((if low then piece (Constant false) [] ∷ [] else []) ++ (if high then piece (Constant true) [] ∷ [] else []))
  none_of_constants true true = ap₂ (λ a b. a ++ (b ++ [])) (ports.constant false) (ports.constant true)
  none_of_constants true false = ap (λ a. a ++ []) (ports.constant false)
  none_of_constants false true = ap (λ a. a ++ []) (ports.constant true)
  none_of_constants false false = refl

  made_of_parts : (net : Net) → flat_map made (parts_of net).pieces
      ≡ flat_map made (port_parts net).pieces ++ flat_map (λ c. flat_map made (write_pieces c)) (placed_cells net)
  unfolding parts_of
  made_of_parts net =
      flat_map-append made (port_parts net).pieces
      (in_turn (cell_parts net) (length (port_parts net).pieces) (placed_cells net)).pieces
      ∙ ap (λ b. flat_map made (port_parts net).pieces ++ b)
      (made_of_cells net (length (port_parts net).pieces) (placed_cells net))

  -- all of it is made of the ports, and then of the write ports
  pub made_of_ports : (net : Net) → flat_map made (pieces_of net ++ constants net)
      ≡ flat_map made (port_parts net).pieces ++ flat_map (λ c. flat_map made (write_pieces c)) (placed_cells net)
  made_of_ports net =
      flat_map-append made (pieces_of net) (constants net)
      ∙ ap₂ (λ a b. a ++ b) (flat_map-append made (parts_of net).pieces (map buffer (wiring_of net).rings))
      (none_of_constants (is_used net false) (is_used net true))
      ∙ append-nil (flat_map made (parts_of net).pieces ++ flat_map made (map buffer (wiring_of net).rings))
      ∙ ap (λ b. flat_map made (parts_of net).pieces ++ b) (none_of_buffers (wiring_of net).rings)
      ∙ append-nil (flat_map made (parts_of net).pieces)
      ∙ made_of_parts net

module _ {B : Type 0} (made : Piece → List B) (sinks : IsOfSinks made) where
  none_of_inputs : (signals : List Signal) → flat_map made (map (λ s. piece Input []) signals) ≡ []
  none_of_inputs [] = refl
  none_of_inputs (s ∷ signals) = ap₂ (λ a b. a ++ b) sinks.input (none_of_inputs signals)

  -- all of it is made of the data outputs, and then of the write ports
  pub made_of_sinks : (net : Net) → flat_map made (pieces_of net ++ constants net)
      ≡ flat_map made (output_parts net).pieces ++ flat_map (λ c. flat_map made (write_pieces c)) (placed_cells net)
  made_of_sinks net =
      made_of_ports made sinks.ports net
      ∙ ap (λ a. a ++ flat_map (λ c. flat_map made (write_pieces c)) (placed_cells net))
      (flat_map-append made (input_parts net).pieces (output_parts net).pieces
      ∙ ap (λ a. a ++ flat_map made (output_parts net).pieces)
      (ap₂ (λ a b. a ++ b) sinks.host (none_of_inputs (data_inputs net))))
