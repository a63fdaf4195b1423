-- What each pin of a cell is for: its width, and whether the cell reads it, is clocked by it or drives it.
use Rattle.std.specs.Prelude.{ℕ, zero, suc, ◌+◌, ◌*◌, ◌^◌, List, [], ◌∷◌, ◌++◌, length, map, Bool, true, false, not, ◌&&◌, ◌||◌, ◌==◌, nat_lt, if◌then◌else◌, bytes_eq, Option, find, option_map, unwrap_or, is_some, codes, min, get_or, nat_eq, Some, None, filter, filter_map, flat_map, option_and_then}
use Rattle.std.specs.List.{list_all, enumerate_from, flat_map, list_any, starts_with}
use Rattle.cs_base.specs.declared.signal.Signal.{Signal}
use Rattle.cs_json.specs.declared.document.CellDecl.{CellDecl}
use Rattle.cs_json.specs.declared.document.PinDecl.{PinDecl}
use Rattle.cs_cells.specs.declared.gate.Kind.{Kind}
use Rattle.cs_cells.specs.declared.register.FfKind.{FfKind}
use Rattle.cs_cells.specs.declared.class.Class.{Class}
use Rattle.cs_cells.specs.declared.class.Class.TheVariants.{Gate, Register, Memory, Scope, Asynchronous, NotFine, Unknown}
use Rattle.cs_cells.specs.Gates.{pin_count, pin_name}
use Rattle.cs_cells.specs.Classes.{class_of}
use Rattle.cs_modules.specs.declared.connection.Role.{Role}
use Rattle.cs_modules.specs.declared.connection.Role.TheVariants as roles
use Rattle.cs_modules.specs.Digits.{datum_at, digits_at, is_one, value_of}
use Rattle.cs_base.specs.declared.signal.Signal.TheVariants.{Unknown}
use Rattle.cs_json.specs.declared.document.Direction.TheVariants.{Output}
use Rattle.cs_cells.specs.declared.class.Class.TheVariants as class
use Rattle.cs_modules.specs.declared.clocks.Clock.{Clock}

-- the class of a cell's type
abbrev pub class_at : CellDecl → Class
class_at cell = class_of cell.kind

-- a parameter's digits, least first
abbrev pub parameter : CellDecl → List ℕ → List ℕ
parameter cell name = digits_at name cell.parameters

-- the number that a parameter spells
abbrev pub number_at : CellDecl → List ℕ → ℕ
number_at cell name = value_of (parameter cell name)

-- from, from + 1 and on, count numbers
abbrev pub count_from : ℕ → ℕ → List ℕ
count_from from zero = []
count_from from (suc count) = from ∷ count_from (from + 1) count

-- ---- the pins of a type, with their widths

-- names of pins, each with its number of bits
abbrev pub Widths : Type 0
Widths = List (List ℕ × ℕ)

-- a gate has its input pins and Y, one bit each
abbrev pub gate_widths : Kind → Widths
gate_widths kind = map (λ i. (pin_name kind i, 1)) (count_from 0 (pin_count kind)) ++ (codes "Y", 1) ∷ []

-- a register has C, D and Q, and E and R where it has an enable and a reset
abbrev pub register_widths : FfKind → Widths
register_widths kind =
    (codes "C", 1) ∷ (codes "D", 1) ∷ (codes "Q", 1)
    ∷ (if is_some kind.enable then (codes "E", 1) ∷ [] else [])
    ++ (if is_some kind.reset then (codes "R", 1) ∷ [] else [])

-- the pins of `$mem_v2`; port i's part of a pin begins at i times the part's width
abbrev pub memory_widths : (reads writes abits width : ℕ) → Widths
memory_widths reads writes abits width =
    (codes "RD_CLK", reads) ∷ (codes "RD_EN", reads) ∷ (codes "RD_ARST", reads) ∷ (codes "RD_SRST", reads)
    ∷ (codes "RD_ADDR", reads * abits) ∷ (codes "RD_DATA", reads * width)
    ∷ (codes "WR_CLK", writes) ∷ (codes "WR_EN", writes * width)
    ∷ (codes "WR_ADDR", writes * abits) ∷ (codes "WR_DATA", writes * width) ∷ []

-- the pins of a cell's type
abbrev pub widths_of : Class → CellDecl → Widths
widths_of (Gate kind) cell = gate_widths kind
widths_of (Register kind) cell = register_widths kind
widths_of Memory cell =
    memory_widths (number_at cell (codes "RD_PORTS")) (number_at cell (codes "WR_PORTS"))
    (number_at cell (codes "ABITS")) (number_at cell (codes "WIDTH"))
widths_of Scope cell = []
widths_of Asynchronous cell = []
widths_of NotFine cell = []
widths_of Unknown cell = []

-- the width of the pin of a name
abbrev pub width_at : Widths → List ℕ → Option ℕ
width_at widths name = option_map (λ w. w.1) (find (λ w. bytes_eq w.0 name) widths)

-- the bits of a pin, and none where it is missing
abbrev pub pin_bits : List PinDecl → List ℕ → List Signal
pin_bits pins name = unwrap_or (option_map (λ p. p.bits) (find (λ p. bytes_eq p.name name) pins)) []

-- a pin is one of these and as wide
abbrev pub is_pin_of : Widths → PinDecl → Bool
is_pin_of widths p = unwrap_or (option_map (λ width. length p.bits == width) (width_at widths p.name)) false

-- a pin of this name is there
abbrev pub has_pin : List PinDecl → List ℕ → Bool
has_pin pins name = is_some (find (λ p. bytes_eq p.name name) pins)

-- every pin of the cell is one of its type and as wide, and none is missing
abbrev pub has_pins : Widths → List PinDecl → Bool
has_pins widths pins = list_all (is_pin_of widths) pins && list_all (λ w. has_pin pins w.0) widths

-- a parameter that is there and below 2^32
abbrev pub is_size : CellDecl → List ℕ → Bool
is_size cell name = is_some (datum_at name cell.parameters) && nat_lt (number_at cell name) (2 ^ 32)

-- the parameters that give a memory its pins and words
abbrev pub memory_sizes : List (List ℕ)
memory_sizes = codes "SIZE" ∷ codes "ABITS" ∷ codes "WIDTH" ∷ codes "RD_PORTS" ∷ codes "WR_PORTS" ∷ []

-- a memory has each of these
abbrev pub has_sizes : Class → CellDecl → Bool
has_sizes (Gate kind) cell = true
has_sizes (Register kind) cell = true
has_sizes Memory cell = list_all (is_size cell) memory_sizes
has_sizes Scope cell = true
has_sizes Asynchronous cell = true
has_sizes NotFine cell = true
has_sizes Unknown cell = true

-- a memory has its sizes, and the cell's pins are those of its type
abbrev pub has_right_pins : CellDecl → Bool
has_right_pins cell = has_sizes (class_at cell) cell && has_pins (widths_of (class_at cell) cell) cell.pins

-- ---- what each bit of a pin is for

-- Y is a gate's output
abbrev pub gate_role : List ℕ → Role
gate_role name = if bytes_eq name (codes "Y") then roles.Output else roles.Data

-- C is a register's clock, and Q its output
abbrev pub register_role : FfKind → List ℕ → Role
register_role kind name =
    if bytes_eq name (codes "C") then roles.Clock kind.rising
    else (if bytes_eq name (codes "Q") then roles.Output else roles.Data)

-- the pins of a read port, beside its clock, that only a clocked port reads
abbrev pub is_for_clocked_reads : List ℕ → Bool
is_for_clocked_reads name =
    bytes_eq name (codes "RD_EN") || bytes_eq name (codes "RD_ARST") || bytes_eq name (codes "RD_SRST")

-- a read port (`RD`) or a write port (`WR`) is clocked where its digit of CLK_ENABLE is 1
abbrev pub is_clocked : CellDecl → List ℕ → ℕ → Bool
is_clocked cell side port = is_one (parameter cell (side ++ codes "_CLK_ENABLE")) port

-- its edge rises where its digit of CLK_POLARITY is 1
abbrev pub is_rising : CellDecl → List ℕ → ℕ → Bool
is_rising cell side port = is_one (parameter cell (side ++ codes "_CLK_POLARITY")) port

-- bit i of RD_CLK: the clock of a clocked read port
abbrev pub read_clock_role : CellDecl → ℕ → Role
read_clock_role cell i = if is_clocked cell (codes "RD") i then roles.Clock (is_rising cell (codes "RD") i) else roles.Unused

-- bit i of WR_CLK: the clock of a clocked write port
abbrev pub write_clock_role : CellDecl → ℕ → Role
write_clock_role cell i = if is_clocked cell (codes "WR") i then roles.Clock (is_rising cell (codes "WR") i) else roles.Data

-- a bit of a memory's pin; an unclocked read port has an address and data alone
abbrev pub memory_role : CellDecl → List ℕ → ℕ → Role
memory_role cell name i =
    if bytes_eq name (codes "RD_DATA") then roles.Output
    else (if bytes_eq name (codes "RD_CLK") then read_clock_role cell i
    else (if bytes_eq name (codes "WR_CLK") then write_clock_role cell i
    else (if is_for_clocked_reads name && not (is_clocked cell (codes "RD") i) then roles.Unused else roles.Data)))

-- what the bit at place i of a pin is for
abbrev pub role_of : Class → CellDecl → List ℕ → ℕ → Role
role_of (Gate kind) cell name i = gate_role name
role_of (Register kind) cell name i = register_role kind name
role_of Memory cell name i = memory_role cell name i
role_of Scope cell name i = roles.Unused
role_of Asynchronous cell name i = roles.Unused
role_of NotFine cell name i = roles.Unused
role_of Unknown cell name i = roles.Unused

-- one bit of a cell's pin: the cell's name, the signal that it is connected to, and what it is for
pub record Connection : Type 0 where
  pub cell : List ℕ
  pub signal : Signal
  pub role : Role

-- the connections of a pin, by place
abbrev pub pin_connections : CellDecl → PinDecl → List Connection
pin_connections cell pin =
    map (λ e. record { cell = cell.name; signal = e.1; role = role_of (class_at cell) cell pin.name e.0 })
    (enumerate_from 0 pin.bits)

-- the connections of a cell, pin by pin
abbrev pub cell_connections : CellDecl → List Connection
cell_connections cell = flat_map (pin_connections cell) cell.pins

-- the connections of all cells, cell by cell
abbrev pub connections : List CellDecl → List Connection
connections cells = flat_map cell_connections cells
