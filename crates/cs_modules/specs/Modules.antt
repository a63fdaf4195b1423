-- What a module says: which module is the top, its cells, what drives its bits, its clock, and the initial values of its bits.
use Rattle.std.specs.Prelude.{ℕ, ◌*◌, min, List, [], ◌∷◌, ◌++◌, get_or, map, Bool, true, false, not, ◌&&◌, ◌||◌, ◌==◌, nat_lt, if◌then◌else◌, bytes_eq, nat_eq, Option, Some, None, find, filter, filter_map, flat_map, option_map, option_and_then, unwrap_or, is_some, codes}
use Rattle.std.specs.List.{list_any, list_all, starts_with, enumerate_from}
use Rattle.cs_base.specs.declared.signal.Signal.{Signal}
use Rattle.cs_base.specs.declared.signal.Signal.TheVariants.{Unknown}
use Rattle.cs_json.specs.declared.document.Document.{Document}
use Rattle.cs_json.specs.declared.document.Module.{Module}
use Rattle.cs_json.specs.declared.document.PortDecl.{PortDecl}
use Rattle.cs_json.specs.declared.document.CellDecl.{CellDecl}
use Rattle.cs_json.specs.declared.document.NetDecl.{NetDecl}
use Rattle.cs_json.specs.declared.document.Direction.TheVariants.{Output}
use Rattle.cs_cells.specs.declared.class.Class.{Class}
use Rattle.cs_cells.specs.declared.class.Class.TheVariants as class
use Rattle.cs_modules.specs.declared.clocks.Clock.{Clock}
use Rattle.cs_modules.specs.declared.connection.Role.{Role}
use Rattle.cs_modules.specs.declared.connection.Role.TheVariants as roles
use Rattle.cs_modules.specs.Digits.{digits_at, is_nonzero, init_digit}
use Rattle.cs_modules.specs.Pins.{class_at, pin_bits, Connection, connections}
use Rattle.cs_modules.specs.Signals.{is_bit, is_input, is_output, number_in}

-- ---- the top module

-- marked by a `top` attribute other than 0
abbrev pub is_marked : Module → Bool
is_marked m = is_nonzero (digits_at (codes "top") m.attributes)

-- the module, where there is exactly one
abbrev pub only_one : List Module → Option Module
only_one [] = None
only_one (m ∷ []) = Some m
only_one (m ∷ n ∷ ms) = None

-- the only marked module, or the only module where none is marked
abbrev pub only_marked : (marked all : List Module) → Option Module
only_marked [] all = only_one all
only_marked (m ∷ ms) all = only_one (m ∷ ms)

-- the module of that name, or the only marked one
abbrev pub top_of : Document → Option (List ℕ) → Option Module
top_of doc None = only_marked (filter is_marked doc.modules) doc.modules
top_of doc (Some name) = find (λ m. bytes_eq m.name name) doc.modules

-- ---- the cells

-- passed over
abbrev pub is_scope : Class → Bool
is_scope (class.Gate kind) = false
is_scope (class.Register kind) = false
is_scope class.Memory = false
is_scope class.Scope = true
is_scope class.Asynchronous = false
is_scope class.NotFine = false
is_scope class.Unknown = false

-- a register
abbrev pub is_register : Class → Bool
is_register (class.Register kind) = true
is_register _ = false

-- a memory
abbrev pub is_memory : Class → Bool
is_memory class.Memory = true
is_memory _ = false

-- `$scopeinfo` cells are passed over
abbrev pub cells_in : List CellDecl → List CellDecl
cells_in cells = filter (λ cell. not (is_scope (class_at cell))) cells

-- the cells of a netlist
abbrev pub cells_of : Module → List CellDecl
cells_of m = cells_in m.cells

-- ---- what the cells read and drive

-- read by its cell as data
abbrev pub is_data_input : Role → Bool
is_data_input roles.Data = true
is_data_input (roles.Clock rising) = false
is_data_input roles.Output = false
is_data_input roles.Unused = false

-- driven by its cell
abbrev pub is_cell_output : Role → Bool
is_cell_output roles.Data = false
is_cell_output (roles.Clock rising) = false
is_cell_output roles.Output = true
is_cell_output roles.Unused = false

-- the edge of a clock pin: whether it rises
abbrev pub edge_of : Role → Option Bool
edge_of roles.Data = None
edge_of (roles.Clock rising) = Some rising
edge_of roles.Output = None
edge_of roles.Unused = None

-- read by its cell as data or as its clock
abbrev pub is_cell_input : Role → Bool
is_cell_input r = is_data_input r || is_some (edge_of r)

-- a connection that reads this bit as data
abbrev pub reads_as_data : ℕ → Connection → Bool
reads_as_data b c = is_data_input c.role && is_bit b c.signal

-- the connections of the netlist's cells: cells in order, within a cell pins in order and bits by place
abbrev pub connections_of : Module → List Connection
connections_of m = connections (cells_of m)

-- ---- what is driven

-- the bits of the input ports among some ports
abbrev pub input_bits_in : List PortDecl → List Signal
input_bits_in ports = flat_map (λ p. p.bits) (filter (λ p. is_input p.direction) ports)

-- the bits of the output ports among some ports
abbrev pub output_bits_in : List PortDecl → List Signal
output_bits_in ports = flat_map (λ p. p.bits) (filter (λ p. is_output p.direction) ports)

-- the bits of its input ports
abbrev pub input_bits : Module → List Signal
input_bits m = input_bits_in m.ports

-- the bits of its output ports
abbrev pub output_bits : Module → List Signal
output_bits m = output_bits_in m.ports

-- each signal as often as an input port or an output pin drives it
abbrev pub driven_signals : Module → List Signal
driven_signals m = input_bits m ++ map (λ c. c.signal) (filter (λ c. is_cell_output c.role) (connections_of m))

-- ---- the clock

-- a clock pin: its cell, its signal, and whether its edge rises
pub record ClockPin : Type 0 where
  pub cell : List ℕ
  pub signal : Signal
  pub rising : Bool

-- a connection that is a clock pin
abbrev pub clock_pin : Connection → Option ClockPin
clock_pin c = option_map (λ rising. record { cell = c.cell; signal = c.signal; rising = rising }) (edge_of c.role)

-- the clock pins, in the order of the connections
abbrev pub clock_pins : Module → List ClockPin
clock_pins m = filter_map clock_pin (connections_of m)

-- the bit and the edge of the first clock pin
abbrev pub first_clock : List ClockPin → Option Clock
first_clock [] = None
first_clock (p ∷ ps) = option_map (λ b. record { bit = b; rising = p.rising }) (number_in p.signal)

-- the clock of a module, that of its first clock pin
abbrev pub clock_of : Module → Option Clock
clock_of m = first_clock (clock_pins m)

-- ---- initial values

-- the bits that registers drive, cell by cell
abbrev pub register_bits : Module → List ℕ
register_bits m =
    filter_map number_in (flat_map (λ cell. pin_bits cell.pins (codes "Q")) (filter (λ cell. is_register (class_at cell)) m.cells))

-- the initial values that a net's `init` gives to a bit
abbrev pub init_values_in : ℕ → NetDecl → List Bool
init_values_in b net =
    filter_map (λ e. if is_bit b e.1 then init_digit (digits_at (codes "init") net.attributes) e.0 else None) (enumerate_from 0 net.bits)

-- the initial values that all nets give to a bit
abbrev pub init_values : Module → ℕ → List Bool
init_values m b = flat_map (init_values_in b) m.nets

-- the initial value of a bit, 0 where no net gives one
abbrev pub initial_value : Module → ℕ → Bool
initial_value m b = get_or (init_values m b) 0 false
