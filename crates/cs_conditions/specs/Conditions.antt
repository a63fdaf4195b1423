-- Why a module is no netlist: conditions that are asked in order, each over the whole module before the next.
use Rattle.std.specs.Prelude.{ℕ, ◌*◌, min, List, [], ◌∷◌, ◌++◌, get_or, map, Bool, true, false, not, ◌&&◌, ◌||◌, ◌==◌, nat_lt, if◌then◌else◌, bytes_eq, nat_eq, Option, Some, None, find, filter, filter_map, flat_map, option_map, option_and_then, unwrap_or, is_some, codes}
use Rattle.std.specs.List.{list_any, list_all, starts_with, enumerate_from}
use Rattle.cs_base.specs.declared.signal.Signal.{Signal}
use Rattle.cs_base.specs.declared.signal.Signal.TheVariants.{Zero, One, Unknown, HighZ, Bit}
use Rattle.cs_json.specs.declared.document.Module.{Module}
use Rattle.cs_json.specs.declared.document.PortDecl.{PortDecl}
use Rattle.cs_json.specs.declared.document.CellDecl.{CellDecl}
use Rattle.cs_json.specs.declared.document.Direction.{Direction}
use Rattle.cs_json.specs.declared.document.Direction.TheVariants.{Input, Output, Inout}
use Rattle.cs_cells.specs.declared.class.Class.{Class}
use Rattle.cs_cells.specs.declared.class.Class.TheVariants as class
use Rattle.cs_conditions.specs.declared.error.NetError.{NetError}
use Rattle.cs_modules.specs.declared.clocks.Clock.{Clock}
use Rattle.cs_conditions.specs.declared.error.NetError.TheVariants.{UnknownCell, NotFine, Asynchronous, BadPins, ConstZ, TwoDrivers, ClockNotInput, TwoClocks, MixedEdges, ClockAsData, TwoStarts, MemoryForm, Reserved}
use Rattle.cs_conditions.specs.declared.error.NetError.TheVariants as error
use Rattle.cs_modules.specs.declared.connection.Role.TheVariants as roles
use Rattle.cs_modules.specs.Digits.{is_one, is_nonzero}
use Rattle.cs_modules.specs.Pins.{class_at, parameter, number_at, count_from, pin_bits, is_clocked, Connection, has_right_pins}
use Rattle.cs_modules.specs.Signals.{is_bit, is_output, is_bit_of, is_high_z, number_in, same}
use Rattle.cs_modules.specs.Modules.{cells_of, clock_of, clock_pins, connections_of, driven_signals, init_values, input_bits, is_cell_input, is_memory, output_bits, reads_as_data, register_bits}

-- the first answer, or else the next
abbrev pub or_else : {A : Type 0} → Option A → Option A → Option A
or_else None next = next
or_else (Some a) next = Some a

-- an error about the first thing that passes a test
abbrev pub first_where : {A : Type 0} → (A → Bool) → (A → NetError) → List A → Option NetError
first_where test error xs = option_map error (find test xs)

-- the error where the test is true
abbrev pub error_if : Bool → NetError → Option NetError
error_if false error = None
error_if true error = Some error

-- ---- 2 to 4: classes

abbrev pub is_unknown : Class → Bool
is_unknown class.Unknown = true
is_unknown _ = false

abbrev pub is_not_fine : Class → Bool
is_not_fine class.NotFine = true
is_not_fine _ = false

abbrev pub is_asynchronous : Class → Bool
is_asynchronous class.Asynchronous = true
is_asynchronous _ = false

-- 2: a cell of an unknown type
abbrev pub unknown_cell : Module → Option NetError
unknown_cell m = first_where (λ cell. is_unknown (class_at cell)) (λ cell. UnknownCell cell.name cell.kind) (cells_of m)

-- 3: a coarse cell
abbrev pub not_fine : Module → Option NetError
not_fine m = first_where (λ cell. is_not_fine (class_at cell)) (λ cell. NotFine cell.name cell.kind) (cells_of m)

-- 4: a latch, a tristate buffer, or a register with an asynchronous pin or no clock
abbrev pub asynchronous : Module → Option NetError
asynchronous m =
    first_where (λ cell. is_asynchronous (class_at cell)) (λ cell. Asynchronous cell.name cell.kind) (cells_of m)

-- ---- 5 to 7: pins, directions and `z`

-- 5: a cell with other pins than its type, or a memory without a size
abbrev pub bad_pins : Module → Option NetError
bad_pins m = first_where (λ cell. not (has_right_pins cell)) (λ cell. BadPins cell.name) (cells_of m)

abbrev pub is_inout : Direction → Bool
is_inout Input = false
is_inout Output = false
is_inout Inout = true

-- 6: a port of both directions
abbrev pub inout : Module → Option NetError
inout m = first_where (λ p. is_inout p.direction) (λ p. error.Inout p.name) m.ports

-- a cell's input that holds `z`
abbrev pub is_open_input : Connection → Bool
is_open_input c = is_cell_input c.role && is_high_z c.signal

-- an output port that holds `z`
abbrev pub is_open_output : PortDecl → Bool
is_open_output p = is_output p.direction && list_any is_high_z p.bits

-- 7: `z` at an input pin of a cell, and then in an output port
abbrev pub const_z : Module → Option NetError
const_z m = or_else
    (first_where is_open_input (λ c. ConstZ c.cell) (connections_of m))
    (first_where is_open_output (λ p. ConstZ p.name) m.ports)

-- ---- 8: drivers

-- the least of some numbers
abbrev pub least : List ℕ → Option ℕ
least [] = None
least (b ∷ bs) = Some (min b (unwrap_or (least bs) b))

-- the numbers that stand once more further on
abbrev pub duplicates : List ℕ → List ℕ
duplicates [] = []
duplicates (b ∷ bs) = if list_any (λ a. a == b) bs then b ∷ duplicates bs else duplicates bs

-- 8: a bit that is driven twice, the least of them
abbrev pub two_drivers : Module → Option NetError
two_drivers m = option_map TwoDrivers (least (duplicates (filter_map number_in (driven_signals m))))

-- ---- 9 to 12: the clock

-- 9: a clock pin whose signal is no bit of an input port
abbrev pub clock_not_input : Module → Option NetError
clock_not_input m =
    first_where (λ p. not (is_bit_of (input_bits m) p.signal)) (λ p. ClockNotInput p.signal) (clock_pins m)

-- asked of the clock, where there is one
abbrev pub of_clock : (Clock → Module → Option NetError) → Module → Option NetError
of_clock f m = option_and_then (λ clock. f clock m) (clock_of m)

-- 10: a clock pin with another bit than the first one
abbrev pub two_clocks : Clock → Module → Option NetError
two_clocks clock m =
    first_where (λ b. not (b == clock.bit)) (λ b. TwoClocks clock.bit b) (filter_map (λ p. number_in p.signal) (clock_pins m))

-- 11: a clock pin with another edge than the first one
abbrev pub mixed_edges : Clock → Module → Option NetError
mixed_edges clock m = first_where (λ p. not (same p.rising clock.rising)) (λ p. MixedEdges p.cell) (clock_pins m)

-- 12: the clock bit at an input pin other than a clock pin, or in an output port
abbrev pub clock_as_data : Clock → Module → Option NetError
clock_as_data clock m =
    error_if (list_any (reads_as_data clock.bit) (connections_of m) || list_any (is_bit clock.bit) (output_bits m)) (ClockAsData clock.bit)

-- ---- 13: initial values

-- a bit is given both 0 and 1
abbrev pub has_two_starts : Module → ℕ → Bool
has_two_starts m b = list_any (λ value. value) (init_values m b) && list_any not (init_values m b)

-- 13: a register's bit Q that is given both 0 and 1, the least of them
abbrev pub two_starts : Module → Option NetError
two_starts m = option_map TwoStarts (least (filter (has_two_starts m) (register_bits m)))

-- ---- 14: memories

-- the first `count` digits are 0
abbrev pub are_zero : List ℕ → ℕ → Bool
are_zero ds count = list_all (λ i. not (is_one ds i)) (count_from 0 count)

-- the first `count` digits are 1
abbrev pub are_one : List ℕ → ℕ → Bool
are_one ds count = list_all (is_one ds) (count_from 0 count)

-- a signal that is 0 for ever: `0`, `x` or an undriven bit
abbrev pub is_constant_zero : Module → Signal → Bool
is_constant_zero m Zero = true
is_constant_zero m One = false
is_constant_zero m Unknown = true
is_constant_zero m HighZ = false
is_constant_zero m (Bit b) = not (list_any (is_bit b) (driven_signals m))

-- no clocked read port has an asynchronous reset
abbrev pub has_no_asynchronous_reset : Module → CellDecl → Bool
has_no_asynchronous_reset m cell =
    list_all (λ e. not (is_clocked cell (codes "RD") e.0) || is_constant_zero m e.1)
    (enumerate_from 0 (pin_bits cell.pins (codes "RD_ARST")))

-- a parameter, and whether it is as it must be
abbrev pub MemoryRule : Type 0
MemoryRule = List ℕ × Bool

-- the rules on its ports, in order
abbrev pub port_rules : Module → CellDecl → List MemoryRule
port_rules m cell =
    (codes "RD_TRANSPARENCY_MASK", are_zero (parameter cell (codes "RD_TRANSPARENCY_MASK")) (number_at cell (codes "RD_PORTS") * number_at cell (codes "WR_PORTS")))
    ∷ (codes "RD_WIDE_CONTINUATION", are_zero (parameter cell (codes "RD_WIDE_CONTINUATION")) (number_at cell (codes "RD_PORTS")))
    ∷ (codes "WR_WIDE_CONTINUATION", are_zero (parameter cell (codes "WR_WIDE_CONTINUATION")) (number_at cell (codes "WR_PORTS")))
    ∷ (codes "RD_ARST", has_no_asynchronous_reset m cell)
    ∷ (codes "WR_CLK_ENABLE", are_one (parameter cell (codes "WR_CLK_ENABLE")) (number_at cell (codes "WR_PORTS")))
    ∷ []

-- the rules in order
abbrev pub memory_rules : Module → CellDecl → List MemoryRule
memory_rules m cell =
    (codes "SIZE", nat_lt 0 (number_at cell (codes "SIZE")))
    ∷ (codes "WIDTH", nat_lt 0 (number_at cell (codes "WIDTH")))
    ∷ (codes "OFFSET", not (is_nonzero (parameter cell (codes "OFFSET"))))
    ∷ port_rules m cell

abbrev pub is_broken : MemoryRule → Bool
is_broken rule = not rule.1

-- a memory that breaks a rule
abbrev pub is_misformed : Module → CellDecl → Bool
is_misformed m cell = is_memory (class_at cell) && list_any is_broken (memory_rules m cell)

-- the first rule that it breaks
abbrev pub broken_rule : Module → CellDecl → Option NetError
broken_rule m cell = first_where is_broken (λ rule. MemoryForm cell.name rule.0) (memory_rules m cell)

-- 14: a memory that breaks a rule
abbrev pub memory_form : Module → Option NetError
memory_form m = option_and_then (broken_rule m) (find (is_misformed m) (cells_of m))

-- ---- all of them

-- the conditions 2 to 14 in order
abbrev pub early_conditions : List (Module → Option NetError)
early_conditions =
    unknown_cell ∷ not_fine ∷ asynchronous ∷ bad_pins ∷ inout ∷ const_z ∷ two_drivers
    ∷ clock_not_input ∷ of_clock two_clocks ∷ of_clock mixed_edges ∷ of_clock clock_as_data ∷ two_starts ∷ memory_form ∷ []

-- the first that holds
abbrev pub first_of_all : List (Module → Option NetError) → Module → Option NetError
first_of_all [] m = None
first_of_all (condition ∷ conditions) m = or_else (condition m) (first_of_all conditions m)

-- the refusal by the conditions 2 to 14
unfoldable pub early_refusal : Module → Option NetError
early_refusal m = first_of_all early_conditions m

-- the bits hold the clock
abbrev pub holds_clock : Option Clock → List Signal → Bool
holds_clock None bits = false
holds_clock (Some clock) bits = list_any (is_bit clock.bit) bits

-- a port named `cslow_clk` that doesn't hold the clock, or one whose name begins with `$cs$`
abbrev pub is_reserved : Option Clock → PortDecl → Bool
is_reserved clock p =
    (bytes_eq p.name (codes "cslow_clk") && not (holds_clock clock p.bits)) || starts_with nat_eq p.name (codes "$cs$")

-- 16: a port with a name that written netlists use
unfoldable pub reserved : Module → Option NetError
reserved m = first_where (λ p. is_reserved (clock_of m) p) (λ p. Reserved p.name) m.ports
