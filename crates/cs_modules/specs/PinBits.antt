-- The list of all bits of cells' pins, each with its cell's place: the connections as they are kept.
use Rattle.std.specs.Prelude.{◌≡◌, ℕ, ◌+◌, List, [], ◌∷◌, ◌++◌, map, filter_map, Bool, Option, Some, None, if◌then◌else◌, unwrap_or, option_map, slice_get, codes, length}
use Rattle.std.specs.List.{enumerate_from, flat_map}
use Rattle.cs_json.specs.declared.document.CellDecl.{CellDecl}
use Rattle.cs_json.specs.declared.document.Module.{Module}
use Rattle.cs_json.specs.declared.document.PinDecl.{PinDecl}
use Rattle.cs_json.specs.declared.document.PortDecl.{PortDecl}
use Rattle.cs_modules.specs.declared.connection.PinBit.{PinBit}
use Rattle.cs_modules.specs.declared.connection.PortClocks.{PortClocks}
use Rattle.cs_modules.specs.declared.clocks.ClockBit.{ClockBit}
use Rattle.cs_modules.specs.declared.clocks.Clock.{Clock}
use Rattle.cs_modules.specs.Pins.{class_at, parameter, role_of, Connection, Widths}
use Rattle.cs_modules.specs.Signals.{is_input, number_in}
use Rattle.cs_modules.specs.Modules.{is_scope, is_marked, only_one, edge_of, ClockPin}
use Rattle.std.specs.Borrow.{Bor}

-- these are the digits of the parameters that say which ports are clocked, and by which edge
pub record AreClocksOf (cell : CellDecl) (clocks : PortClocks) : Type 0 where
  pub read_enable : clocks.read_enable.items ≡ parameter cell (codes "RD_CLK_ENABLE")
  pub read_polarity : clocks.read_polarity.items ≡ parameter cell (codes "RD_CLK_POLARITY")
  pub write_enable : clocks.write_enable.items ≡ parameter cell (codes "WR_CLK_ENABLE")
  pub write_polarity : clocks.write_polarity.items ≡ parameter cell (codes "WR_CLK_POLARITY")

-- the bits of a pin of cell i, by place
abbrev pub bits_of_pin : ℕ → CellDecl → PinDecl → List PinBit
bits_of_pin i cell pin =
    map (λ e. record { cell = i; signal = e.1; role = role_of (class_at cell) cell pin.name e.0 }) (enumerate_from 0 pin.bits)

-- the bits of the pins of cell i, pin by pin
abbrev pub bits_of_cell : ℕ → CellDecl → List PinBit
bits_of_cell i cell = flat_map (bits_of_pin i cell) cell.pins

-- the bits of the pins of all cells but those that are passed over, where the first cell has the place i
abbrev pub bits_of_cells_from : ℕ → List CellDecl → List PinBit
bits_of_cells_from i [] = []
bits_of_cells_from i (cell ∷ cells) =
    (if is_scope (class_at cell) then [] else bits_of_cell i cell) ++ bits_of_cells_from (i + 1) cells

abbrev pub bits_of_cells : List CellDecl → List PinBit
bits_of_cells cells = bits_of_cells_from 0 cells

-- the connection of a bit, told by its cell's name
abbrev pub connection_of : List CellDecl → PinBit → Connection
connection_of cells bit = record {
  cell = unwrap_or (option_map (λ cell. cell.name) (slice_get cells bit.cell)) [];
  signal = bit.signal;
  role = bit.role;
}

-- ---- clock pins

-- a bit that is a clock pin
abbrev pub clock_bit_of : PinBit → Option ClockBit
clock_bit_of bit =
    option_map (λ rising. record { cell = bit.cell; signal = bit.signal; rising = rising }) (edge_of bit.role)

-- the clock pins of all cells
abbrev pub clock_bits_of : List CellDecl → List ClockBit
clock_bits_of cells = filter_map clock_bit_of (bits_of_cells cells)

-- the clock pin of such a bit, told by its cell's name
abbrev pub clock_pin_of : List CellDecl → ClockBit → ClockPin
clock_pin_of cells bit = record {
  cell = unwrap_or (option_map (λ cell. cell.name) (slice_get cells bit.cell)) [];
  signal = bit.signal;
  rising = bit.rising;
}

-- the bit and the edge of the first of them
abbrev pub first_clock_of : List ClockBit → Option Clock
first_clock_of [] = None
first_clock_of (bit ∷ bits) = option_map (λ b. record { bit = b; rising = bit.rising }) (number_in bit.signal)

-- ---- ports

-- the numbers of the input ports' bits, port by port
abbrev pub input_numbers_of : List PortDecl → List ℕ
input_numbers_of [] = []
input_numbers_of (port ∷ ports) =
    (if is_input port.direction then filter_map number_in port.bits else []) ++ input_numbers_of ports

-- ---- modules

-- the places of the marked modules, where the first module has the place i
abbrev pub marked_places_from : ℕ → List Module → List ℕ
marked_places_from i [] = []
marked_places_from i (m ∷ ms) = (if is_marked m then i ∷ [] else []) ++ marked_places_from (i + 1) ms

-- the module at the only one of some places, or the only module where there are none
abbrev pub top_at : List ℕ → List Module → Option Module
top_at [] all = only_one all
top_at (place ∷ []) all = slice_get all place
top_at (place ∷ next ∷ places) all = None

-- names of pins with their numbers of bits
abbrev pub widths_in : List (Bor (List ℕ) × ℕ) → Widths
widths_in widths = map (λ w. (w.0.now, w.1)) widths
