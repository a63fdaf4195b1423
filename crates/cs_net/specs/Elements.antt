-- A netlist as a graph: its vertices are what drives its bits.
use Rattle.std.specs.Prelude.{ℕ, List, [], ◌∷◌, map, filter_map, if◌then◌else◌, Option, Some, None, codes}
use Rattle.std.specs.Option.{option_and_then}
use Rattle.std.specs.List.{enumerate_from, flat_map, position_from, zip}
use Rattle.cs_cells.specs.declared.class.Class.{Class}
use Rattle.cs_cells.specs.declared.class.Class.TheVariants.{Gate, Register, Memory, Scope, Asynchronous, NotFine, Unknown}
use Rattle.cs_cells.specs.declared.memory.MemShape.{MemShape}
use Rattle.cs_cells.specs.declared.memory.ReadShape.{ReadShape}
use Rattle.cs_cells.specs.Gates.{pin_count, pin_name}
use Rattle.cs_net.specs.declared.elements.Element.{Element}
use Rattle.cs_net.specs.declared.netlist.Cell.{Cell}
use Rattle.cs_modules.specs.Signals.{number_in, holds_bit}
use Rattle.cs_net.specs.Drivers.{data_inputs, port_part, signal_of}
use Rattle.cs_net.specs.Netlist.{Net}
use Rattle.cs_modules.specs.Pins.{count_from}

-- a read port; a clocked one depends on nothing within a clock
abbrev pub read_element : ℕ → Cell → MemShape → ℕ × ReadShape → Element
read_element i cell shape read = record {
  cell = i;
  outputs = port_part cell (codes "RD_DATA") shape.width read.0;
  inputs = if read.1.clocked then [] else port_part cell (codes "RD_ADDR") shape.abits read.0;
}

-- the read ports of a memory
abbrev pub memory_elements : ℕ → Cell → Option MemShape → List Element
memory_elements i cell None = []
memory_elements i cell (Some shape) = map (read_element i cell shape) (enumerate_from 0 shape.reads)

-- a gate depends on its pins, a register on nothing within a clock
abbrev pub class_elements : Class → ℕ → Cell → Option MemShape → List Element
class_elements (Gate kind) i cell shape = record {
  cell = i;
  outputs = signal_of cell (codes "Y") ∷ [];
  inputs = map (λ p. signal_of cell (pin_name kind p)) (count_from 0 (pin_count kind));
} ∷ []
class_elements (Register kind) i cell shape =
    record { cell = i; outputs = signal_of cell (codes "Q") ∷ []; inputs = [] } ∷ []
class_elements Memory i cell shape = memory_elements i cell shape
class_elements Scope i cell shape = []
class_elements Asynchronous i cell shape = []
class_elements NotFine i cell shape = []
class_elements Unknown i cell shape = []

-- the elements of the cell at a place
abbrev pub cell_elements : ℕ × (Cell × Option MemShape) → List Element
cell_elements c = class_elements c.1.0.class c.0 c.1.0 c.1.1

-- the data inputs, and then cell by cell
abbrev pub elements_of : Net → List Element
elements_of net =
    record { cell = 0; outputs = data_inputs net; inputs = [] }
    ∷ flat_map cell_elements (enumerate_from 0 (zip net.cells net.shapes))

-- the number of the first element that drives a bit
abbrev pub owner : List Element → ℕ → Option ℕ
owner elements b = position_from (λ e. holds_bit b e.outputs) 0 elements

-- the numbers of the elements that drive the inputs of one
abbrev pub sources : List Element → Element → List ℕ
sources elements e = filter_map (λ s. option_and_then (owner elements) (number_in s)) e.inputs

-- each element depends on those that drive its inputs
unfoldable pub graph_of : List Element → List (List ℕ)
graph_of elements = map (sources elements) elements
