-- What the connections of a written cell are, by their roles.
use Rattle.std.proofs.Common.{◌≡◌, ℕ, ◌+◌, List, [], ◌∷◌, ◌++◌, map, Bool, true, false, Option, Some, None, refl, sym, ap, ◌∙◌, arith}
use Rattle.std.specs.Prelude.{filter, filter_map, flat_map, slice_get, if◌then◌else◌}
use Rattle.std.specs.List.{AllByRecursion, enumerate_from}
use Rattle.std.proofs.lemmas.List.{map-append}
use Rattle.std.proofs.lemmas.List.Elements.{filter_map-append}
use Rattle.cs_base.specs.declared.signal.Signal.{Signal}
use Rattle.cs_base.specs.declared.signal.Signal.TheVariants.{Zero, One}
use Rattle.cs_json.specs.declared.document.CellDecl.{CellDecl}
use Rattle.cs_json.specs.declared.document.Module.{Module}
use Rattle.cs_json.specs.Readable.{IsCell}
use Rattle.cs_cells.specs.declared.class.Class.{Class}
use Rattle.cs_cells.specs.declared.class.Class.TheVariants.{Gate, Register, Memory, Scope, Asynchronous, NotFine, Unknown}
use Rattle.cs_conditions.specs.Conditions.{is_misformed}
use Rattle.cs_modules.specs.declared.clocks.Clock.{Clock}
use Rattle.cs_modules.specs.declared.connection.Role.{Role}
use Rattle.cs_modules.specs.declared.connection.Role.TheVariants as roles
use Rattle.cs_modules.specs.Modules.{edge_of, is_cell_output}
use Rattle.cs_modules.specs.Pins.{Connection, cell_connections, class_at, has_right_pins, role_of}
use Rattle.cs_modules.specs.Signals.{is_high_z, number_in}
use Rattle.cs_net.specs.Drivers.{is_clock}
use Rattle.cs_net.proofs.Members.{Has}
use Rattle.cs_circuit.specs.declared.circuit.Circuit.{Circuit}
use Rattle.cs_circuit.specs.Cells.{clock_signal, is_rising}
use Rattle.cs_circuit.specs.WellFormed.{IsData, is_clocked}
use Rattle.cs_circuit.proofs.Lists.{all_listed, filter-append}

-- ---- one connection

-- what is read as data is neither `z` nor the clock, and each clock pin has the clock
abbrev pub IsFineRole : Circuit → Signal → Role → Type 0
IsFineRole k s roles.Data = (is_high_z s ≡ false) × (is_clock k.clock s ≡ false)
IsFineRole k s (roles.Clock rising) = (s ≡ clock_signal k.clock) × (rising ≡ is_rising k.clock) ×
    (is_clocked k ≡ true)
IsFineRole k s roles.Output = Unit {0}
IsFineRole k s roles.Unused = Unit {0}

abbrev pub IsFineConnection : Circuit → Connection → Type 0
IsFineConnection k c = IsFineRole k c.signal c.role

pub fine_data : (k : Circuit) (s : Signal) → IsData k.clock s → IsFineRole k s roles.Data
fine_data k s d = (d.closed, d.apart)

zero_apart : (clock : Option Clock) → is_clock clock Zero ≡ false
zero_apart None = refl
zero_apart (Some clock) = refl

one_apart : (clock : Option Clock) → is_clock clock One ≡ false
one_apart None = refl
one_apart (Some clock) = refl

pub zero_is_data : (clock : Option Clock) → IsData clock Zero
zero_is_data clock = record { closed = refl; readable = refl; apart = zero_apart clock }

pub one_is_data : (clock : Option Clock) → IsData clock One
one_is_data clock = record { closed = refl; readable = refl; apart = one_apart clock }

-- whatever a test says, it is read as data or not at all
pub data_or_unused : (k : Circuit) (s : Signal) (t : Bool) → IsData k.clock s
    → IsFineRole k s (if t then roles.Unused else roles.Data)
data_or_unused k s true d = tt
data_or_unused k s false d = fine_data k s d

pub output_or_data : (k : Circuit) (s : Signal) (t : Bool) → IsData k.clock s
    → IsFineRole k s (if t then roles.Output else roles.Data)
output_or_data k s true d = tt
output_or_data k s false d = fine_data k s d

-- ---- the connections of a cell of a class

abbrev pub connection_by : Class → CellDecl → List ℕ → ℕ → Signal → Connection
connection_by c cell name i s = record { cell = cell.name; signal = s; role = role_of c cell name i }

abbrev pub pin_by : Class → CellDecl → List ℕ → List Signal → List Connection
pin_by c cell name bits = map (λ e. connection_by c cell name e.0 e.1) (enumerate_from 0 bits)

abbrev pub connections_by : Class → CellDecl → List Connection
connections_by c cell = flat_map (λ p. pin_by c cell p.name p.bits) cell.pins

-- each bit of a pin is fine
pub fine_pin : (k : Circuit) (c : Class) (cell : CellDecl) (name : List ℕ) (bits : List Signal)
    → ((i : ℕ) (s : Signal) → slice_get bits i ≡ Some s → IsFineRole k s (role_of c cell name i))
    → AllByRecursion (IsFineConnection k) (pin_by c cell name bits)
fine_pin k c cell name bits each =
    all_listed (IsFineConnection k) (connection_by c cell name) 0 bits
    (λ i s stands. let same : i ≡ 0 + i = omega arith in rw (sym same) (each i s stands))

-- ---- the numbers that connections drive

abbrev pub driven_in : List Connection → List ℕ
driven_in cs = filter_map number_in
    (map (λ (c : Connection). c.signal) (filter (λ (c : Connection). is_cell_output c.role) cs))

pub driven_in-append : (xs ys : List Connection) → driven_in (xs ++ ys) ≡ driven_in xs ++ driven_in ys
driven_in-append xs ys =
    let out = λ (c : Connection). is_cell_output c.role in
    ap (λ cs. filter_map number_in (map (λ (c : Connection). c.signal) cs)) (filter-append out xs ys)
    ∙ ap (filter_map number_in) (map-append (λ (c : Connection). c.signal) (filter out xs) (filter out ys))
    ∙ filter_map-append number_in (map (λ (c : Connection). c.signal) (filter out xs))
    (map (λ (c : Connection). c.signal) (filter out ys))

pub driven_in-chain : {A : Type 0} (f : A → List Connection) (xs : List A)
    → driven_in (flat_map f xs) ≡ flat_map (λ x. driven_in (f x)) xs
driven_in-chain f [] = refl
driven_in-chain f (x ∷ xs) =
    driven_in-append (f x) (flat_map f xs) ∙ ap (λ rest. driven_in (f x) ++ rest) (driven_in-chain f xs)

-- a pin that is no output drives nothing
pub no_output : (c : Class) (cell : CellDecl) (name : List ℕ) (from : ℕ) (bits : List Signal)
    → ((i : ℕ) → is_cell_output (role_of c cell name i) ≡ false)
    → driven_in (map (λ e. connection_by c cell name e.0 e.1) (enumerate_from from bits)) ≡ []
no_output c cell name from [] none = refl
no_output c cell name from (s ∷ bits) none = rw (none from) (no_output c cell name (from + 1) bits none)

-- an output drives all its bits
pub all_output : (c : Class) (cell : CellDecl) (name : List ℕ) (from : ℕ) (bits : List Signal)
    → ((i : ℕ) → is_cell_output (role_of c cell name i) ≡ true)
    → driven_in (map (λ e. connection_by c cell name e.0 e.1)
    (enumerate_from from bits)) ≡ filter_map number_in bits
all_output c cell name from [] each = refl
all_output c cell name from (s ∷ bits) each =
    rw (each from)
    (filter_map-append number_in (s ∷ [])
    (map (λ (d : Connection). d.signal) (filter (λ (d : Connection). is_cell_output d.role)
    (map (λ e. connection_by c cell name e.0 e.1) (enumerate_from (from + 1) bits))))
    ∙ ap (λ rest. filter_map number_in (s ∷ []) ++ rest) (all_output c cell name (from + 1) bits each)
    ∙ sym (filter_map-append number_in (s ∷ []) bits))

-- ---- cells

-- gates, registers and memories
abbrev pub is_part : Class → Bool
is_part (Gate kind) = true
is_part (Register kind) = true
is_part Memory = true
is_part Scope = false
is_part Asynchronous = false
is_part NotFine = false
is_part Unknown = false

-- a cell of which no condition holds
pub record IsFineCell (k : Circuit) (cell : CellDecl) : Type 0 where
  pub part : is_part (class_at cell) ≡ true
  pub right : has_right_pins cell ≡ true
  pub connections : AllByRecursion (IsFineConnection k) (cell_connections cell)
  pub formed : (m : Module) → is_misformed m cell ≡ false
  pub readable : IsCell cell

-- a cell has a clock pin
abbrev pub HasClockPin : CellDecl → Type 0
HasClockPin cell = (c : Connection) × Has (cell_connections cell) c × (rising : Bool) ×
    (edge_of c.role ≡ Some rising)
