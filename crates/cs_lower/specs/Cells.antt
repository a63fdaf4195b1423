-- The vertices of each cell.
use Rattle.std.specs.Prelude.{◌≡◌, ℕ, ◌+◌, ◌^◌, ◌<◌, length, List, [], ◌∷◌, ◌++◌, if◌then◌else◌, map, Bool, Option, Some, None, bytes_eq, codes, get_or, false, option_map, unwrap_or}
use Rattle.std.specs.List.{enumerate_from, zip}
use Rattle.cs_base.specs.declared.signal.Signal.{Signal}
use Rattle.cs_base.specs.declared.signal.Signal.TheVariants.{Zero}
use Rattle.cs_cells.specs.declared.class.Class.{Class}
use Rattle.cs_cells.specs.declared.class.Class.TheVariants.{Asynchronous, Gate as GateClass, Memory, NotFine, Register, Scope, Unknown}
use Rattle.cs_cells.specs.declared.gate.Kind.{Kind}
use Rattle.cs_cells.specs.declared.memory.MemShape.{MemShape}
use Rattle.cs_cells.specs.declared.memory.ReadShape.{ReadShape}
use Rattle.cs_cells.specs.declared.register.FfKind.{FfKind}
use Rattle.cs_cells.specs.Gates.{pin_count, pin_name}
use Rattle.cs_cells.specs.Memories.{read_register}
use Rattle.cs_graph.specs.declared.vertex.VertexKind.TheVariants.{Gate, Read, Write}
use Rattle.cs_modules.specs.Pins.{count_from}
use Rattle.cs_net.specs.declared.netlist.Cell.{Cell}
use Rattle.cs_net.specs.declared.netlist.PinBits.{PinBits}
use Rattle.cs_net.specs.Build.{places_from}
use Rattle.cs_net.specs.Drivers.{bits_of, port_part, read_data, read_element, register_of, signal_of}
use Rattle.cs_net.specs.Netlist.{Net}
use Rattle.cs_lower.specs.Registers.{register_parts}
use Rattle.cs_lower.specs.declared.taps.Tap.TheVariants.{Signal as of_signal, Vertex as of_vertex}
use Rattle.cs_lower.specs.declared.taps.Wire.TheVariants.{Vertex as from_vertex}
use Rattle.cs_lower.specs.declared.taps.Piece.{Piece}
use Rattle.cs_lower.specs.declared.registers.RegisterPins.{RegisterPins}
use Rattle.cs_lower.specs.declared.taps.Parts.{Parts}
use Rattle.cs_lower.specs.Taps.{both, in_turn, no_parts, piece}

-- a cell with its shape, of a memory alone, and the number of memories before it
pub record Placed : Type 0 where
  pub cell : Cell
  pub shape : Option MemShape
  pub memory : ℕ

-- a pin of this name
abbrev pub named : Option PinBits → List ℕ → Bool
named None name = false
named (Some pin) name = bytes_eq pin.name name

-- the first signal of a pin
abbrev pub first_signal : Option PinBits → Signal
first_signal pin = get_or (unwrap_or (option_map (λ p. p.bits) pin) []) 0 Zero

-- a gate is one vertex
abbrev pub gate_piece : Cell → Kind → Piece
gate_piece cell kind = record {
  kind = Gate kind;
  pins = map (λ i. of_signal (signal_of cell (pin_name kind i))) (count_from 0 (pin_count kind));
  origin = cell.name;
}

-- and drives Y
abbrev pub gate_parts : ℕ → Cell → Kind → Parts
gate_parts n cell kind =
    record { pieces = gate_piece cell kind ∷ []; wires = (signal_of cell (codes "Y"), from_vertex n 0) ∷ [] }

-- a register drives Q
abbrev pub register_cell_parts : Net → ℕ → Cell → FfKind → Parts
register_cell_parts net n cell kind =
    register_parts net n (signal_of cell (codes "Q"), false) (register_of cell kind) (of_signal (signal_of cell (codes "D")))

-- ---- memories

-- a data bit of a read port, by its place
abbrev pub Datum : Type 0
Datum = ℕ × Signal

-- the pins of the register of a data bit of a clocked read
abbrev pub read_pins : Cell → ℕ × ReadShape → Datum → RegisterPins
read_pins cell read e = record {
  kind = read_register (get_or read.1.reset_value e.0 false) read.1.enable_over_reset;
  q = e.1;
  start = get_or read.1.start e.0 false;
  enable = get_or (bits_of cell (codes "RD_EN")) read.0 Zero;
  reset = get_or (bits_of cell (codes "RD_SRST")) read.0 Zero;
}

-- what the Read of number v gives, where the port is unclocked
abbrev pub read_wires : ℕ → List Datum → Parts
read_wires v bits = record { pieces = []; wires = map (λ e. (e.1, from_vertex v e.0)) bits }

-- the register of a data bit of a clocked read, whose Read has the number v
abbrev pub held_parts : Net → Cell → MemShape → ℕ × ReadShape → ℕ → ℕ → Datum → Parts
held_parts net cell shape read v n e =
    register_parts net n (e.1, get_or read.1.start e.0 false) (read_element cell shape read.1 read.0 e.0) (of_vertex v e.0)

-- what a read port gives
abbrev pub data_parts : Net → Cell → MemShape → ℕ × ReadShape → ℕ → Parts
data_parts net cell shape read v =
    if read.1.clocked then in_turn (held_parts net cell shape read v) (v + 1) (read_data cell shape read.0)
    else read_wires v (read_data cell shape read.0)

abbrev pub read_piece : ℕ → Cell → MemShape → ℕ → Piece
read_piece memory cell shape port =
    piece (Read memory port) (map of_signal (port_part cell (codes "RD_ADDR") shape.abits port))

-- a memory's read ports are so few that a number of 32 bits tells each
abbrev pub HasFewReads : Option MemShape → Type 0
HasFewReads shape = (s : MemShape) → shape ≡ Some s → length s.reads < 2 ^ 32

-- a read port: a Read and, where it is clocked, the vertices of a register for each data bit
abbrev pub read_parts : Net → ℕ → Cell → MemShape → ℕ → ℕ × ReadShape → Parts
read_parts net memory cell shape v read =
    both (record { pieces = read_piece memory cell shape read.0 ∷ []; wires = [] }) (data_parts net cell shape read v)

-- a write port: address bits, data bits and enable bits
abbrev pub write_piece : ℕ → Cell → MemShape → ℕ → Piece
write_piece memory cell shape port =
    piece (Write memory port)
    (map of_signal (port_part cell (codes "WR_ADDR") shape.abits port ++ port_part cell (codes "WR_DATA") shape.width port
    ++ port_part cell (codes "WR_EN") shape.width port))

-- the write ports of a memory, which drive nothing
abbrev pub write_parts : ℕ → Cell → MemShape → Parts
write_parts memory cell shape =
    record { pieces = map (write_piece memory cell shape) (count_from 0 shape.writes); wires = [] }

-- its read ports, then its write ports
abbrev pub memory_parts : Net → ℕ → ℕ → Cell → Option MemShape → Parts
memory_parts net n memory cell None = no_parts
memory_parts net n memory cell (Some shape) =
    both (in_turn (read_parts net memory cell shape) n (enumerate_from 0 shape.reads)) (write_parts memory cell shape)

-- ---- all cells

abbrev pub class_parts : Net → ℕ → Class → Placed → Parts
class_parts net n (GateClass kind) c = gate_parts n c.cell kind
class_parts net n (Register kind) c = register_cell_parts net n c.cell kind
class_parts net n Memory c = memory_parts net n c.memory c.cell c.shape
class_parts net n Scope c = no_parts
class_parts net n Asynchronous c = no_parts
class_parts net n NotFine c = no_parts
class_parts net n Unknown c = no_parts

abbrev pub cell_parts : Net → ℕ → Placed → Parts
cell_parts net n c = class_parts net n c.cell.class c

-- the cells in order, each with its shape and its place among the memories
abbrev pub placed_cells : Net → List Placed
placed_cells net =
    map (λ c. record { cell = c.0; shape = c.1.0; memory = c.1.1 }) (zip net.cells (zip net.shapes (places_from 0 net.shapes)))
