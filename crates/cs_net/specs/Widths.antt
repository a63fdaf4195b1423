-- The pins of a type as code keeps them, and as a netlist's cell tells them.
use Rattle.std.specs.Prelude.{ℕ, List, [], length, map, Option, Some, None}
use Rattle.std.specs.Borrow.{Bor}
use Rattle.cs_cells.specs.declared.class.Class.{Class}
use Rattle.cs_cells.specs.declared.class.Class.TheVariants.{Gate, Register, Memory, Scope, Asynchronous, NotFine, Unknown}
use Rattle.cs_cells.specs.declared.memory.MemShape.{MemShape}
use Rattle.cs_modules.specs.Pins.{Widths, gate_widths, memory_widths, register_widths}

-- the pins of a memory of a shape, none without one
abbrev pub widths_by_shape : Option MemShape → Widths
widths_by_shape None = []
widths_by_shape (Some shape) = memory_widths (length shape.reads) shape.writes shape.abits shape.width

-- the pins of a cell of a netlist, by its class and, of a memory, by its shape
abbrev pub widths_by : Class → Option MemShape → Widths
widths_by (Gate kind) shape = gate_widths kind
widths_by (Register kind) shape = register_widths kind
widths_by Memory shape = widths_by_shape shape
widths_by Scope shape = []
widths_by Asynchronous shape = []
widths_by NotFine shape = []
widths_by Unknown shape = []
