-- What drives each bit of a netlist.
use Rattle.std.specs.Prelude.{ℕ, ◌+◌, ◌*◌, ◌==◌, List, [], ◌∷◌, ◌++◌, get_or, slice_range, map, Bool, true, false, not, if◌then◌else◌, Option, Some, None, bytes_eq, find, filter, filter_map, ◌<◌, IsTrue, option_map, unwrap_or, codes}
use Rattle.std.specs.List.{enumerate_from, flat_map, list_any, zip}
use Rattle.cs_base.specs.declared.signal.Signal.{Signal}
use Rattle.cs_base.specs.declared.signal.Signal.TheVariants.{Zero, One, Unknown, HighZ, Bit}
use Rattle.cs_cells.specs.declared.gate.Kind.{Kind}
use Rattle.cs_cells.specs.declared.register.FfKind.{FfKind}
use Rattle.cs_cells.specs.declared.memory.MemShape.{MemShape}
use Rattle.cs_cells.specs.declared.memory.ReadShape.{ReadShape}
use Rattle.cs_cells.specs.declared.class.Class.{Class}
use Rattle.cs_cells.specs.declared.class.Class.TheVariants.{Gate, Register, Memory, Scope, Asynchronous, NotFine, Unknown as UnknownClass}
use Rattle.cs_cells.specs.Gates.{pin_count, pin_name}
use Rattle.cs_cells.specs.Memories.{read_register}
use Rattle.cs_net.specs.declared.netlist.Cell.{Cell}
use Rattle.cs_modules.specs.declared.clocks.Clock.{Clock}
use Rattle.cs_net.specs.declared.state.BitValue.{BitValue}
use Rattle.cs_net.specs.declared.state.Snapshot.{Snapshot}
use Rattle.cs_net.specs.Netlist.{Net}
use Rattle.cs_modules.specs.Pins.{count_from}
use Rattle.cs_modules.specs.Signals.{holds_bit, is_bit, is_input, is_output}

-- one bit of the word at an address of the memory of a name
pub record WordBit : Type 0 where
  pub memory : List ℕ
  pub address : List Signal
  pub place : ℕ

-- what a register has at D: a signal, or, for a data bit of a clocked read, a bit of the memory's word
pub data Source : Type 0 where
  from_signal : Signal → Source
  from_word : WordBit → Source

-- a register, or a data bit of a clocked read
pub record StateElement : Type 0 where
  pub kind : FfKind
  pub source : Source
  pub enable : Signal
  pub reset : Signal

pub data Driver : Type 0 where
  -- nothing drives the bit, or the clock's port does
  undriven : Driver
  -- the data input bit at this place of a row
  input : ℕ → Driver
  -- the output of a gate with these pins
  gate : Kind → List Signal → Driver
  -- a data bit of an unclocked read
  word_bit : WordBit → Driver
  -- the output of a register, or a data bit of a clocked read
  register : StateElement → Driver

-- a signal and what drives it
abbrev pub DrivenSignal : Type 0
DrivenSignal = Signal × Driver

-- ---- pins by name

-- the bits of a pin, and none where it is missing
abbrev pub bits_of : Cell → List ℕ → List Signal
bits_of cell name = unwrap_or (option_map (λ p. p.bits) (find (λ p. bytes_eq p.name name) cell.pins)) []

-- the signal of a pin of one bit
abbrev pub signal_of : Cell → List ℕ → Signal
signal_of cell name = get_or (bits_of cell name) 0 Zero

-- port i's part of a pin
abbrev pub port_part : Cell → List ℕ → ℕ → ℕ → List Signal
port_part cell name width i = slice_range (bits_of cell name) (i * width) (i * width + width)

-- ---- the ports' bits

-- the signal is the clock's bit
abbrev pub is_clock : Option Clock → Signal → Bool
is_clock None s = false
is_clock (Some clock) s = is_bit clock.bit s

-- the bits of the input ports without the clock, port by port in order, least first
abbrev pub data_inputs : Net → List Signal
data_inputs net =
    filter (λ s. not (is_clock net.clock s)) (flat_map (λ p. p.bits) (filter (λ p. is_input p.direction) net.ports))

-- the bits of the output ports, port by port in order, least first; none of them is the clock
abbrev pub data_outputs : Net → List Signal
data_outputs net = flat_map (λ p. p.bits) (filter (λ p. is_output p.direction) net.ports)

-- ---- what a cell drives

-- a gate drives Y
abbrev pub gate_drives : Cell → Kind → List DrivenSignal
gate_drives cell kind =
    (signal_of cell (codes "Y"), gate kind (map (λ i. signal_of cell (pin_name kind i)) (count_from 0 (pin_count kind)))) ∷ []

-- the state element of a register cell
abbrev pub register_of : Cell → FfKind → StateElement
register_of cell kind = record {
  kind = kind;
  source = from_signal (signal_of cell (codes "D"));
  enable = signal_of cell (codes "E");
  reset = signal_of cell (codes "R");
}

-- a register drives Q
abbrev pub register_drives : Cell → FfKind → List DrivenSignal
register_drives cell kind = (signal_of cell (codes "Q"), register (register_of cell kind)) ∷ []

-- a bit of the word at a read port's address
abbrev pub read_word_bit : Cell → MemShape → ℕ → ℕ → WordBit
read_word_bit cell shape port place =
    record { memory = cell.name; address = port_part cell (codes "RD_ADDR") shape.abits port; place = place }

-- the state element of a data bit of a clocked read
abbrev pub read_element : Cell → MemShape → ReadShape → ℕ → ℕ → StateElement
read_element cell shape read port place = record {
  kind = read_register (get_or read.reset_value place false) read.enable_over_reset;
  source = from_word (read_word_bit cell shape port place);
  enable = get_or (bits_of cell (codes "RD_EN")) port Zero;
  reset = get_or (bits_of cell (codes "RD_SRST")) port Zero;
}

-- what drives a data bit of a read port
abbrev pub read_driver : Cell → MemShape → ReadShape → ℕ → ℕ → Driver
read_driver cell shape read port place =
    if read.clocked then register (read_element cell shape read port place)
    else word_bit (read_word_bit cell shape port place)

-- the data bits of a read port, by place
abbrev pub read_data : Cell → MemShape → ℕ → List (ℕ × Signal)
read_data cell shape port = enumerate_from 0 (port_part cell (codes "RD_DATA") shape.width port)

-- a read port drives its part of RD_DATA
abbrev pub read_drives : Cell → MemShape → ℕ × ReadShape → List DrivenSignal
read_drives cell shape read =
    map (λ e. (e.1, read_driver cell shape read.1 read.0 e.0)) (read_data cell shape read.0)

-- a memory drives what its read ports do
abbrev pub memory_drives : Cell → Option MemShape → List DrivenSignal
memory_drives cell None = []
memory_drives cell (Some shape) = flat_map (read_drives cell shape) (enumerate_from 0 shape.reads)

-- by its class
abbrev pub class_drives : Class → Cell → Option MemShape → List DrivenSignal
class_drives (Gate kind) cell shape = gate_drives cell kind
class_drives (Register kind) cell shape = register_drives cell kind
class_drives Memory cell shape = memory_drives cell shape
class_drives Scope cell shape = []
class_drives Asynchronous cell shape = []
class_drives NotFine cell shape = []
class_drives UnknownClass cell shape = []

-- what a cell drives; the shape is that of a memory
abbrev pub cell_drives : Cell × Option MemShape → List DrivenSignal
cell_drives c = class_drives c.0.class c.0 c.1

-- every signal that a data input or a cell drives, with what drives it
abbrev pub drivers : Net → List DrivenSignal
drivers net =
    map (λ e. (e.1, input e.0)) (enumerate_from 0 (data_inputs net))
    ++ flat_map cell_drives (zip net.cells net.shapes)

-- what drives a bit
unfoldable pub driver_of : Net → ℕ → Driver
driver_of net b = unwrap_or (option_map (λ d. d.1) (find (λ d. is_bit b d.0) (drivers net))) undriven

-- ---- the start

-- a value for a signal, where that is a bit
abbrev pub bit_value : Signal → Bool → Option BitValue
bit_value Zero value = None
bit_value One value = None
bit_value Unknown value = None
bit_value HighZ value = None
bit_value (Bit b) value = Some (record { bit = b; value = value })

-- the starts of a read port's data bits, where it is clocked
abbrev pub read_starts : Cell → MemShape → ℕ × ReadShape → List BitValue
read_starts cell shape read =
    if read.1.clocked then filter_map (λ e. bit_value e.1 (get_or read.1.start e.0 false)) (read_data cell shape read.0)
    else []

-- the starts of a memory's clocked reads
abbrev pub memory_read_starts : Cell × Option MemShape → List BitValue
memory_read_starts (cell, None) = []
memory_read_starts (cell, Some shape) = flat_map (read_starts cell shape) (enumerate_from 0 shape.reads)

-- the netlist's own start: of registers, of clocked reads and of memories
abbrev pub own_start : Net → Snapshot
own_start net = record {
  bits = net.starts ++ flat_map memory_read_starts (zip net.cells net.shapes);
  memories = net.memories;
}

-- ---- loops

-- the signals that a bit's value depends on in the same clock
abbrev pub fanin : Driver → List Signal
fanin undriven = []
fanin (input i) = []
fanin (gate kind pins) = pins
fanin (word_bit w) = w.address
fanin (register r) = []

-- bit a is in the fan-in of bit b
abbrev pub depends_on : Net → ℕ → ℕ → Bool
depends_on net b a = holds_bit a (fanin (driver_of net b))

-- each bit depends on the next, and the final one on `last`
abbrev pub IsBitChain : Net → List ℕ → ℕ → Type 0
IsBitChain net [] last = ⊥
IsBitChain net (b ∷ []) last = IsTrue (depends_on net b last)
IsBitChain net (b ∷ a ∷ bs) last = IsTrue (depends_on net b a) × IsBitChain net (a ∷ bs) last

-- each bit depends on the next, and the final one on the first
abbrev pub IsBitLoop : Net → List ℕ → Type 0
IsBitLoop net [] = ⊥
IsBitLoop net (b ∷ bs) = IsBitChain net (b ∷ bs) b

-- each bit has a place after those that it depends on
abbrev pub IsBitOrder : Net → (ℕ → ℕ) → Type 0
IsBitOrder net place = (b a : ℕ) → IsTrue (depends_on net b a) → place a < place b
