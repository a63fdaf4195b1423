-- How a netlist is laid out.
use Rattle.std.specs.Prelude.{ℕ, ◌+◌, List, [], ◌∷◌, ◌++◌, get_or, length, map, fold, Bool, false, if◌then◌else◌, Option, Some, None, codes}
use Rattle.std.specs.List.{enumerate_from, flat_map, zip}
use Rattle.cs_base.specs.declared.signal.Signal.{Signal}
use Rattle.cs_base.specs.declared.signal.Signal.TheVariants.{Zero, One, Unknown, HighZ, Bit}
use Rattle.cs_cells.specs.declared.class.Class.{Class}
use Rattle.cs_cells.specs.declared.class.Class.TheVariants as class
use Rattle.cs_cells.specs.declared.gate.Kind.{Kind}
use Rattle.cs_cells.specs.declared.register.FfKind.{FfKind}
use Rattle.cs_cells.specs.declared.memory.MemShape.{MemShape}
use Rattle.cs_cells.specs.declared.memory.ReadShape.{ReadShape}
use Rattle.cs_cells.specs.Gates.{pin_count, pin_name}
use Rattle.cs_cells.specs.Memories.{read_register}
use Rattle.cs_net.specs.declared.netlist.Cell.{Cell}
use Rattle.cs_net.specs.declared.state.BitValue.{BitValue}
use Rattle.cs_net.specs.Drivers.{bits_of, data_inputs, port_part, read_data, signal_of}
use Rattle.cs_net.specs.Netlist.{Net, bit_at}
use Rattle.cs_modules.specs.Pins.{count_from}
use Rattle.cs_sim.specs.declared.layout.Layout.{Layout}
use Rattle.cs_sim.specs.declared.layout.ReadBit.{ReadBit}
use Rattle.cs_sim.specs.declared.layout.ReadPortSlots.{ReadPortSlots}
use Rattle.cs_sim.specs.declared.layout.RegisterSlots.{RegisterSlots}
use Rattle.cs_sim.specs.declared.layout.Work.{Work}
use Rattle.cs_sim.specs.declared.layout.Work.TheVariants.{Inputs, Register, ClockedRead, Gate, Read}
use Rattle.cs_sim.specs.declared.layout.WriteSlots.{WriteSlots}
use Rattle.cs_sim.specs.Slots.{slot_of}

-- ---- the signals that are driven, part by part

-- the data bits of all read ports of a memory
abbrev pub memory_outputs : Cell → Option MemShape → List Signal
memory_outputs cell None = []
memory_outputs cell (Some shape) =
    flat_map (λ e. port_part cell (codes "RD_DATA") shape.width e.0) (enumerate_from 0 shape.reads)

-- what a cell drives, by its class
abbrev pub class_outputs : Class → Cell → Option MemShape → List Signal
class_outputs (class.Gate kind) cell shape = signal_of cell (codes "Y") ∷ []
class_outputs (class.Register kind) cell shape = signal_of cell (codes "Q") ∷ []
class_outputs class.Memory cell shape = memory_outputs cell shape
class_outputs class.Scope cell shape = []
class_outputs class.Asynchronous cell shape = []
class_outputs class.NotFine cell shape = []
class_outputs class.Unknown cell shape = []

abbrev pub cell_outputs : Cell × Option MemShape → List Signal
cell_outputs c = class_outputs c.0.class c.0 c.1

-- the data inputs, and then cell by cell
abbrev pub driven_signals : Net → List Signal
driven_signals net = data_inputs net ++ flat_map cell_outputs (zip net.cells net.shapes)

-- ---- parts

-- a further part that drives so many bits
abbrev pub with_part : Layout → Work → ℕ → Layout
with_part l work outputs =
    record l { parts = l.parts ++ record { first = l.slots; work = work } ∷ []; slots = l.slots + outputs }

-- a gate
abbrev pub with_gate : List Signal → Layout → Cell → Kind → Layout
with_gate driven l cell kind =
    with_part l (Gate kind (map (λ i. slot_of driven (signal_of cell (pin_name kind i))) (count_from 0 (pin_count kind)))) 1

-- the start that a list gives a signal, where that is a bit
abbrev pub start_of : List BitValue → Signal → Bool
start_of starts Zero = false
start_of starts One = false
start_of starts Unknown = false
start_of starts HighZ = false
start_of starts (Bit b) = bit_at starts b

-- a register cell
abbrev pub register_slots : List Signal → List BitValue → Cell → FfKind → RegisterSlots
register_slots driven starts cell kind = record {
  kind = kind;
  output = signal_of cell (codes "Q");
  start = start_of starts (signal_of cell (codes "Q"));
  source = slot_of driven (signal_of cell (codes "D"));
  enable = slot_of driven (signal_of cell (codes "E"));
  reset = slot_of driven (signal_of cell (codes "R"));
}

abbrev pub with_register : List Signal → List BitValue → Layout → Cell → FfKind → Layout
with_register driven starts l cell kind =
    record (with_part l (Register (length l.registers)) 1) {
      registers = l.registers ++ register_slots driven starts cell kind ∷ [];
    }

-- ---- read ports

-- a data bit of a clocked read, by its place in the word
abbrev pub read_bit_of : ReadShape → ℕ × Signal → ReadBit
read_bit_of read e = record {
  kind = read_register (get_or read.reset_value e.0 false) read.enable_over_reset;
  output = e.1;
  start = get_or read.start e.0 false;
}

-- the slots of a read port's address
abbrev pub address_slots : List Signal → Cell → MemShape → ℕ → List ℕ
address_slots driven cell shape port = map (slot_of driven) (port_part cell (codes "RD_ADDR") shape.abits port)

-- a clocked read port of a memory
abbrev pub read_port_slots : List Signal → ℕ → Cell → MemShape → ℕ × ReadShape → ReadPortSlots
read_port_slots driven memory cell shape read = record {
  memory = memory;
  address = address_slots driven cell shape read.0;
  enable = slot_of driven (get_or (bits_of cell (codes "RD_EN")) read.0 Zero);
  reset = slot_of driven (get_or (bits_of cell (codes "RD_SRST")) read.0 Zero);
  bits = map (read_bit_of read.1) (read_data cell shape read.0);
}

abbrev pub with_clocked_read : List Signal → ℕ → Cell → MemShape → Layout → ℕ × ReadShape → Layout
with_clocked_read driven memory cell shape l read =
    record (with_part l (ClockedRead (length l.read_ports)) (length (read_data cell shape read.0))) {
      read_ports = l.read_ports ++ read_port_slots driven memory cell shape read ∷ [];
    }

-- an unclocked read port of a memory
abbrev pub with_unclocked_read : List Signal → ℕ → Cell → MemShape → Layout → ℕ → Layout
with_unclocked_read driven memory cell shape l port =
    with_part l (Read memory (address_slots driven cell shape port) (length (read_data cell shape port)))
    (length (read_data cell shape port))

-- a read port, by its number, of the memory at a place
abbrev pub with_read : List Signal → ℕ → Cell → MemShape → Layout → ℕ × ReadShape → Layout
with_read driven memory cell shape l read =
    if read.1.clocked then with_clocked_read driven memory cell shape l read
    else with_unclocked_read driven memory cell shape l read.0

-- ---- memories

-- the slots of write port i
abbrev pub write_slots : List Signal → Cell → MemShape → ℕ → WriteSlots
write_slots driven cell shape i = record {
  address = map (slot_of driven) (port_part cell (codes "WR_ADDR") shape.abits i);
  word = map (slot_of driven) (port_part cell (codes "WR_DATA") shape.width i);
  enable = map (slot_of driven) (port_part cell (codes "WR_EN") shape.width i);
}

-- the write ports of a further memory
abbrev pub with_writes : List Signal → Cell → MemShape → Layout → Layout
with_writes driven cell shape l =
    record l { writes = l.writes ++ map (write_slots driven cell shape) (count_from 0 shape.writes) ∷ [] }

-- a memory: its read ports, then its write ports
abbrev pub with_memory : List Signal → Layout → Cell → Option MemShape → Layout
with_memory driven l cell None = l
with_memory driven l cell (Some shape) =
    with_writes driven cell shape
    (fold (with_read driven (length l.writes) cell shape) l (enumerate_from 0 shape.reads))

-- ---- all of it

-- a further cell, by its class
abbrev pub with_class : List Signal → List BitValue → Layout → Class → Cell → Option MemShape → Layout
with_class driven starts l (class.Gate kind) cell shape = with_gate driven l cell kind
with_class driven starts l (class.Register kind) cell shape = with_register driven starts l cell kind
with_class driven starts l class.Memory cell shape = with_memory driven l cell shape
with_class driven starts l class.Scope cell shape = l
with_class driven starts l class.Asynchronous cell shape = l
with_class driven starts l class.NotFine cell shape = l
with_class driven starts l class.Unknown cell shape = l

abbrev pub with_cell : List Signal → List BitValue → Layout → Cell × Option MemShape → Layout
with_cell driven starts l c = with_class driven starts l c.0.class c.0 c.1

-- two slots for the constants, and no part
abbrev pub no_parts : Layout
no_parts = record { parts = []; registers = []; read_ports = []; writes = []; slots = 2 }

-- the data inputs, and then cell by cell
unfoldable pub layout_of : Net → Layout
layout_of net =
    fold (with_cell (driven_signals net) net.starts) (with_part no_parts Inputs (length (data_inputs net)))
    (zip net.cells net.shapes)
