-- The netlist of a module.
use Rattle.std.specs.Prelude.{◌≡◌, ℕ, ◌+◌, ◌*◌, List, [], ◌∷◌, map, Bool, Option, Some, None, filter_map, flat_map, option_map, codes}
use Rattle.cs_json.specs.declared.document.Module.{Module}
use Rattle.cs_json.specs.declared.document.PortDecl.{PortDecl}
use Rattle.cs_json.specs.declared.document.CellDecl.{CellDecl}
use Rattle.cs_json.specs.declared.document.PinDecl.{PinDecl}
use Rattle.cs_cells.specs.declared.memory.MemShape.{MemShape}
use Rattle.cs_cells.specs.declared.class.Class.{Class}
use Rattle.cs_cells.specs.declared.class.Class.TheVariants as class
use Rattle.cs_net.specs.declared.acceptance.Draft.{Draft}
use Rattle.cs_net.specs.declared.netlist.Cell.{Cell}
use Rattle.cs_net.specs.declared.netlist.PinBits.{PinBits}
use Rattle.cs_net.specs.declared.netlist.Port.{Port}
use Rattle.cs_net.specs.declared.state.BitValue.{BitValue}
use Rattle.cs_net.specs.declared.state.MemoryWords.{MemoryWords}
use Rattle.cs_modules.specs.Pins.{class_at, pin_bits}
use Rattle.cs_net.specs.Netlist.{Net}
use Rattle.cs_modules.specs.Modules.{cells_of, clock_of, initial_value}
use Rattle.cs_modules.specs.Signals.{number_in}
use Rattle.cs_modules.specs.Memories.{first_words, memory_shape, shape_of}

abbrev pub port_of : PortDecl → Port
port_of p = record { name = p.name; direction = p.direction; bits = p.bits }

abbrev pub pin_of : PinDecl → PinBits
pin_of p = record { name = p.name; bits = p.bits }

abbrev pub cell_of : CellDecl → Cell
cell_of cell = record { name = cell.name; class = class_at cell; pins = map pin_of cell.pins }

-- ---- starts

-- a register's bit Q with its initial value
abbrev pub register_starts : Module → CellDecl → List BitValue
register_starts m cell =
    filter_map (λ s. option_map (λ b. record { bit = b; value = initial_value m b }) (number_in s)) (pin_bits cell.pins (codes "Q"))

-- only a register has such a start
abbrev pub starts_by : Class → Module → CellDecl → List BitValue
starts_by (class.Register kind) m cell = register_starts m cell
starts_by _ m cell = []

-- only a memory has words
abbrev pub words_by : Class → CellDecl → Option MemoryWords
words_by class.Memory cell = Some (record { name = cell.name; words = first_words cell (memory_shape cell) })
words_by _ cell = None

-- how many memories stand before each cell, k of them before the first
abbrev pub places_from : ℕ → List (Option MemShape) → List ℕ
places_from k [] = []
places_from k (None ∷ shapes) = k ∷ places_from k shapes
places_from k (Some shape ∷ shapes) = k ∷ places_from (k + 1) shapes

-- the netlist of a module, where no condition holds
unfoldable pub net_of : Module → Net
net_of m = record {
  name = m.name;
  ports = map port_of m.ports;
  cells = map cell_of (cells_of m);
  shapes = map shape_of (cells_of m);
  clock = clock_of m;
  starts = flat_map (λ cell. starts_by (class_at cell) m cell) (cells_of m);
  memories = filter_map (λ cell. words_by (class_at cell) cell) (cells_of m);
}

-- these are the ports, the cells, the shapes and the clock of the module's netlist
pub record IsDraftOf (m : Module) (draft : Draft) : Type 0 where
  pub ports : draft.ports ≡ map port_of m.ports
  pub cells : draft.cells ≡ map cell_of (cells_of m)
  pub shapes : draft.shapes ≡ map shape_of (cells_of m)
  pub clock : draft.clock ≡ clock_of m
