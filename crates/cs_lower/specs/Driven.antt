-- The signals that no register drives.
use Rattle.std.specs.Prelude.{List, [], ◌++◌, flat_map, map, Option}
use Rattle.std.specs.List.{zip}
use Rattle.cs_base.specs.declared.signal.Signal.{Signal}
use Rattle.cs_cells.specs.declared.class.Class.{Class}
use Rattle.cs_cells.specs.declared.class.Class.TheVariants.{Register}
use Rattle.cs_cells.specs.declared.memory.MemShape.{MemShape}
use Rattle.cs_net.specs.declared.netlist.Cell.{Cell}
use Rattle.cs_net.specs.Drivers.{class_drives, data_inputs}
use Rattle.cs_net.specs.Netlist.{Net}

-- what a cell of this class drives, but for the bit Q of a register
abbrev pub outputs_beside : Class → Cell × Option MemShape → List Signal
outputs_beside (Register kind) c = []
outputs_beside k c = map (λ d. d.0) (class_drives k c.0 c.1)

-- what the data inputs and the cells drive, but for the registers
abbrev pub driven_beside : Net → List Signal
driven_beside net = data_inputs net ++ flat_map (λ c. outputs_beside c.0.class c) (zip net.cells net.shapes)
