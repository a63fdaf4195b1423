-- What clocks the cells of a netlist, and what they read beside.
use Rattle.std.specs.Prelude.{ℕ, List, [], ◌∷◌, ◌++◌, map, get_or, if◌then◌else◌, Option, Some, None, filter, filter_map, codes}
use Rattle.std.specs.List.{enumerate_from, flat_map, zip}
use Rattle.cs_base.specs.declared.signal.Signal.{Signal}
use Rattle.cs_base.specs.declared.signal.Signal.TheVariants.{Zero}
use Rattle.cs_cells.specs.declared.class.Class.{Class}
use Rattle.cs_cells.specs.declared.class.Class.TheVariants.{Gate, Register, Memory, Scope, Asynchronous, NotFine, Unknown}
use Rattle.cs_cells.specs.declared.memory.MemShape.{MemShape}
use Rattle.cs_cells.specs.Gates.{pin_count, pin_name}
use Rattle.cs_modules.specs.Pins.{count_from}
use Rattle.cs_modules.specs.Signals.{is_input}
use Rattle.cs_net.specs.declared.netlist.Cell.{Cell}
use Rattle.cs_net.specs.Drivers.{bits_of, signal_of}
use Rattle.cs_net.specs.Netlist.{Net}

-- the bits of the input ports, port by port in order, least first
abbrev pub input_signals : Net → List Signal
input_signals net = flat_map (λ p. p.bits) (filter (λ p. is_input p.direction) net.ports)

-- the bits that a memory's clocked read ports have at a pin, one for each
abbrev pub of_clocked_reads : List ℕ → Cell → MemShape → List Signal
of_clocked_reads pin cell shape =
    filter_map (λ e. if e.1.clocked then Some (get_or (bits_of cell pin) e.0 Zero) else None) (enumerate_from 0 shape.reads)

-- the clocks of a memory's clocked reads and of its writes
abbrev pub memory_clocks : Cell → Option MemShape → List Signal
memory_clocks cell None = []
memory_clocks cell (Some shape) = of_clocked_reads (codes "RD_CLK") cell shape ++ bits_of cell (codes "WR_CLK")

-- what clocks a cell
abbrev pub clocks_by : Class → Cell → Option MemShape → List Signal
clocks_by (Gate kind) cell shape = []
clocks_by (Register kind) cell shape = signal_of cell (codes "C") ∷ []
clocks_by Memory cell shape = memory_clocks cell shape
clocks_by Scope cell shape = []
clocks_by Asynchronous cell shape = []
clocks_by NotFine cell shape = []
clocks_by Unknown cell shape = []

-- what clocks the cells, cell by cell
abbrev pub clock_signals : Net → List Signal
clock_signals net = flat_map (λ c. clocks_by c.0.class c.0 c.1) (zip net.cells net.shapes)

-- what a memory reads: addresses, words and enables, and the enables and resets of its clocked reads
abbrev pub memory_data : Cell → Option MemShape → List Signal
memory_data cell None = []
memory_data cell (Some shape) =
    bits_of cell (codes "RD_ADDR") ++ bits_of cell (codes "WR_ADDR") ++ bits_of cell (codes "WR_DATA")
    ++ bits_of cell (codes "WR_EN") ++ of_clocked_reads (codes "RD_EN") cell shape
    ++ of_clocked_reads (codes "RD_SRST") cell shape

-- what a cell reads beside its clock
abbrev pub data_by : Class → Cell → Option MemShape → List Signal
data_by (Gate kind) cell shape = map (λ i. signal_of cell (pin_name kind i)) (count_from 0 (pin_count kind))
data_by (Register kind) cell shape =
    signal_of cell (codes "D") ∷ signal_of cell (codes "E") ∷ signal_of cell (codes "R") ∷ []
data_by Memory cell shape = memory_data cell shape
data_by Scope cell shape = []
data_by Asynchronous cell shape = []
data_by NotFine cell shape = []
data_by Unknown cell shape = []

-- what the cells read beside their clocks, cell by cell
abbrev pub data_signals : Net → List Signal
data_signals net = flat_map (λ c. data_by c.0.class c.0 c.1) (zip net.cells net.shapes)
