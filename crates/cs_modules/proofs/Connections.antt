-- The connections of a module are its cells' bits, each told by its cell's name.
use Rattle.std.proofs.Common.{◌≡◌, ℕ, suc, ◌+◌, List, [], ◌∷◌, ◌++◌, map, Bool, true, false, not, ◌&&◌, ◌||◌, cond, Option, Some, None, refl, ap, ap₂, sym, ◌∙◌, arith}
use Rattle.std.specs.Prelude.{◌==◌, codes, unwrap_or, option_map, slice_get, find, filter, filter_map}
use Rattle.std.specs.List.{enumerate_from, flat_map, list_any, cons_option}
use Rattle.std.proofs.lemmas.List.{map-append}
use Rattle.std.proofs.lemmas.List.Elements.{filter_map-append}
use Rattle.std.proofs.lemmas.List.Folds.{list_any-append}
use Rattle.cs_base.specs.declared.signal.Signal.{Signal}
use Rattle.cs_base.specs.declared.signal.Signal.TheVariants.{Zero, One, Unknown, HighZ, Bit}
use Rattle.cs_json.specs.declared.document.Module.{Module}
use Rattle.cs_json.specs.declared.document.CellDecl.{CellDecl}
use Rattle.cs_json.specs.declared.document.NetDecl.{NetDecl}
use Rattle.cs_json.specs.declared.document.PinDecl.{PinDecl}
use Rattle.cs_json.specs.declared.document.PortDecl.{PortDecl}
use Rattle.cs_modules.specs.declared.connection.PinBit.{PinBit}
use Rattle.cs_modules.specs.declared.clocks.ClockBit.{ClockBit}
use Rattle.cs_modules.specs.Signals.{is_bit, is_input, is_output, same, number_in}
use Rattle.cs_modules.specs.Digits.{digits_at, init_digit}
use Rattle.cs_modules.specs.Pins.{class_at, role_of, Connection, pin_bits, pin_connections, connections}
use Rattle.cs_modules.specs.Modules.{cells_in, is_scope, is_register, init_values, init_values_in, edge_of, ClockPin, clock_pin, first_clock, is_data_input, is_cell_output, reads_as_data, connections_of, driven_signals, input_bits, input_bits_in}
use Rattle.cs_modules.specs.PinBits.{bits_of_pin, bits_of_cell, bits_of_cells_from, bits_of_cells, connection_of, clock_bit_of, clock_bits_of, clock_pin_of, first_clock_of, input_numbers_of}

-- ---- lists

pub find-map : {A B : Type 0} (test : B → Bool) (f : A → B) (xs : List A) → find test (map f xs) ≡ option_map f (find (λ x. test (f x)) xs)
find-map test f [] = refl
find-map test f (x ∷ xs) = chosen f (test (f x)) x _ _ (find-map test f xs)
  where
    chosen : {A B : Type 0} (f : A → B) (t : Bool) (x : A) (rest : Option A) (rest' : Option B) → rest' ≡ option_map f rest → cond t (Some (f x)) rest' ≡ option_map f (cond t (Some x) rest)
    chosen f true x rest rest' e = refl
    chosen f false x rest rest' e = e

pub option_map-map : {A B C : Type 0} (f : B → C) (g : A → B) (o : Option A) → option_map f (option_map g o) ≡ option_map (λ a. f (g a)) o
option_map-map f g None = refl
option_map-map f g (Some a) = refl

pub list_any-map : {A B : Type 0} (test : B → Bool) (f : A → B) (xs : List A) → list_any test (map f xs) ≡ list_any (λ x. test (f x)) xs
list_any-map test f [] = refl
list_any-map test f (x ∷ xs) = rw (list_any-map test f xs) refl

-- ---- names

abbrev pub name_at : List CellDecl → ℕ → List ℕ
name_at all i = unwrap_or (option_map (λ cell. cell.name) (slice_get all i)) []

name_is : (all : List CellDecl) (i : ℕ) (cell : CellDecl) → slice_get all i ≡ Some cell → name_at all i ≡ cell.name
name_is all i cell at = ap (λ found. unwrap_or (option_map (λ cell. cell.name) found) []) at

module _ (all : List CellDecl) where
  one_pin_bits : (i : ℕ) (cell : CellDecl) (pin : List ℕ) (es : List (ℕ × Signal)) → name_at all i ≡ cell.name
      → map (λ e. record { cell = cell.name; signal = e.1; role = role_of (class_at cell) cell pin e.0 }) es ≡ map (connection_of all) (map (λ e. record { cell = i; signal = e.1; role = role_of (class_at cell) cell pin e.0 }) es)
  one_pin_bits i cell pin [] at = refl
  one_pin_bits i cell pin (e ∷ es) at =
      ap₂ (λ name rest. record { cell = name; signal = e.1; role = role_of (class_at cell) cell pin e.0 } ∷ rest) (sym at) (one_pin_bits i cell pin es at)

  cell_bits : (i : ℕ) (cell : CellDecl) (pins : List PinDecl) → name_at all i ≡ cell.name → flat_map (pin_connections cell) pins ≡ map (connection_of all) (flat_map (bits_of_pin i cell) pins)
  cell_bits i cell [] at = refl
  cell_bits i cell (pin ∷ pins) at =
      ap₂ (λ front rest. front ++ rest) (one_pin_bits i cell pin.name (enumerate_from 0 pin.bits) at) (cell_bits i cell pins at)
      ∙ sym (map-append (connection_of all) (bits_of_pin i cell pin) (flat_map (bits_of_pin i cell) pins))

  further_bits : (scope : Bool) (i : ℕ) (cell : CellDecl) (rest : List CellDecl) → name_at all i ≡ cell.name → connections (cells_in rest) ≡ map (connection_of all) (bits_of_cells_from (i + 1) rest)
      → connections (cond (not scope) (cell ∷ cells_in rest) (cells_in rest)) ≡ map (connection_of all) (cond scope [] (bits_of_cell i cell) ++ bits_of_cells_from (i + 1) rest)
  further_bits true i cell rest at same = same
  further_bits false i cell rest at same =
      ap₂ (λ front rest. front ++ rest) (cell_bits i cell cell.pins at) same
      ∙ sym (map-append (connection_of all) (bits_of_cell i cell) (bits_of_cells_from (i + 1) rest))

  cells_bits : (i : ℕ) (cells : List CellDecl) → ((j : ℕ) → slice_get all (i + j) ≡ slice_get cells j) → connections (cells_in cells) ≡ map (connection_of all) (bits_of_cells_from i cells)
  cells_bits i [] tail = refl
  cells_bits i (cell ∷ cells) tail =
      let here : i ≡ i + 0 = omega arith in
      further_bits (is_scope (class_at cell)) i cell cells
      (name_is all i cell (ap (slice_get all) here ∙ tail 0))
      (cells_bits (i + 1) cells (λ j. let place : i + 1 + j ≡ i + suc j = omega arith in ap (slice_get all) place ∙ tail (suc j)))

pub connections-cells_in : (cells : List CellDecl) → connections (cells_in cells) ≡ map (connection_of cells) (bits_of_cells cells)
connections-cells_in cells = cells_bits cells 0 cells (λ j. let place : 0 + j ≡ j = omega arith in ap (slice_get cells) place)

-- the first connection that passes a test
pub first_connection : (test : Connection → Bool) (cells : List CellDecl) → find test (connections (cells_in cells)) ≡ option_map (connection_of cells) (find (λ bit. test (connection_of cells bit)) (bits_of_cells cells))
first_connection test cells = ap (find test) (connections-cells_in cells) ∙ find-map test (connection_of cells) (bits_of_cells cells)

-- ---- clock pins

clock_pin-map : (cells : List CellDecl) (bits : List PinBit) → filter_map clock_pin (map (connection_of cells) bits) ≡ map (clock_pin_of cells) (filter_map clock_bit_of bits)
clock_pin-map cells [] = refl
clock_pin-map cells (bit ∷ bits) = further (edge_of bit.role) bit _ _ (clock_pin-map cells bits)
  where
    further : (edge : Option Bool) (bit : PinBit) (rest : List ClockPin) (rest' : List ClockBit) → rest ≡ map (clock_pin_of cells) rest'
        → cons_option (option_map (λ rising. record { cell = (connection_of cells bit).cell; signal = bit.signal; rising = rising }) edge) rest ≡ map (clock_pin_of cells) (cons_option (option_map (λ rising. record { cell = bit.cell; signal = bit.signal; rising = rising }) edge) rest')
    further None bit rest rest' e = e
    further (Some rising) bit rest rest' e = ap (λ rest. record { cell = (connection_of cells bit).cell; signal = bit.signal; rising = rising } ∷ rest) e

pub clock_pins-cells : (cells : List CellDecl) → filter_map clock_pin (connections (cells_in cells)) ≡ map (clock_pin_of cells) (clock_bits_of cells)
clock_pins-cells cells = ap (filter_map clock_pin) (connections-cells_in cells) ∙ clock_pin-map cells (bits_of_cells cells)

pub first_clock-cells : (cells : List CellDecl) → first_clock (filter_map clock_pin (connections (cells_in cells))) ≡ first_clock_of (clock_bits_of cells)
first_clock-cells cells = ap first_clock (clock_pins-cells cells) ∙ same (clock_bits_of cells)
  where
    same : (bits : List ClockBit) → first_clock (map (clock_pin_of cells) bits) ≡ first_clock_of bits
    same [] = refl
    same (bit ∷ bits) = refl

-- the numbers of the clock pins
pub clock_numbers : (cells : List CellDecl) → filter_map (λ p. number_in p.signal) (filter_map clock_pin (connections (cells_in cells))) ≡ filter_map (λ bit. number_in bit.signal) (clock_bits_of cells)
clock_numbers cells = ap (filter_map (λ p. number_in p.signal)) (clock_pins-cells cells) ∙ same (clock_bits_of cells)
  where
    same : (bits : List ClockBit) → filter_map (λ p. number_in p.signal) (map (clock_pin_of cells) bits) ≡ filter_map (λ bit. number_in bit.signal) bits
    same [] = refl
    same (bit ∷ bits) = ap (cons_option (number_in bit.signal)) (same bits)

-- ---- ports

-- some bit of some port of a direction
pub list_any-port_bits : (is_kept : PortDecl → Bool) (test : Signal → Bool) (ports : List PortDecl) → list_any test (flat_map (λ p. p.bits) (filter is_kept ports)) ≡ list_any (λ p. is_kept p && list_any test p.bits) ports
list_any-port_bits is_kept test [] = refl
list_any-port_bits is_kept test (p ∷ ports) = further (is_kept p) p ports (list_any-port_bits is_kept test ports)
  where
    further : (kept : Bool) (p : PortDecl) (ports : List PortDecl) → list_any test (flat_map (λ p. p.bits) (filter is_kept ports)) ≡ list_any (λ p. is_kept p && list_any test p.bits) ports
        → list_any test (flat_map (λ p. p.bits) (cond kept (p ∷ filter is_kept ports) (filter is_kept ports))) ≡ ((kept && list_any test p.bits) || list_any (λ p. is_kept p && list_any test p.bits) ports)
    further true p ports e = list_any-append test p.bits (flat_map (λ p. p.bits) (filter is_kept ports)) ∙ ap (λ t. list_any test p.bits || t) e
    further false p ports e = e

-- ---- what reads a bit as data

pub is_read : (cells : List CellDecl) (bits : List PinBit) (ports : List PortDecl) (b : ℕ) → bits ≡ bits_of_cells cells
    → (list_any (λ bit. is_data_input bit.role && is_bit b bit.signal) bits || list_any (λ p. is_output p.direction && list_any (is_bit b) p.bits) ports)
    ≡ (list_any (reads_as_data b) (connections (cells_in cells)) || list_any (is_bit b) (flat_map (λ p. p.bits) (filter (λ p. is_output p.direction) ports)))
is_read cells bits ports b are =
    ap₂ (λ by_cell by_port. by_cell || by_port)
    (ap (list_any (λ bit. is_data_input bit.role && is_bit b bit.signal)) are
    ∙ sym (ap (list_any (reads_as_data b)) (connections-cells_in cells) ∙ list_any-map (reads_as_data b) (connection_of cells) (bits_of_cells cells)))
    (sym (list_any-port_bits (λ p. is_output p.direction) (is_bit b) ports))

-- ---- what is driven

kept_or_not : {A B : Type 0} (f : A → B) (kept : Bool) (x : A) (rest : List A) (rest' : List B) → rest' ≡ map f rest → cond kept (f x ∷ rest') rest' ≡ map f (cond kept (x ∷ rest) rest)
kept_or_not f true x rest rest' e = ap (λ rest. f x ∷ rest) e
kept_or_not f false x rest rest' e = e

filter-map : {A B : Type 0} (test : B → Bool) (f : A → B) (xs : List A) → filter test (map f xs) ≡ map f (filter (λ x. test (f x)) xs)
filter-map test f [] = refl
filter-map test f (x ∷ xs) = kept_or_not f (test (f x)) x _ _ (filter-map test f xs)

filter_map-map : {A B C : Type 0} (h : B → Option C) (f : A → B) (xs : List A) → filter_map h (map f xs) ≡ filter_map (λ x. h (f x)) xs
filter_map-map h f [] = refl
filter_map-map h f (x ∷ xs) = ap (cons_option (h (f x))) (filter_map-map h f xs)

-- the numbers of what input ports and output pins drive
pub driven-cells : (m : Module) (bits : List PinBit) → bits ≡ bits_of_cells m.cells
    → filter_map number_in (input_bits m) ++ filter_map (λ bit. number_in bit.signal) (filter (λ bit. is_cell_output bit.role) bits) ≡ filter_map number_in (driven_signals m)
driven-cells m bits are =
    ap (λ bits. filter_map number_in (input_bits m) ++ filter_map (λ bit. number_in bit.signal) (filter (λ bit. is_cell_output bit.role) bits)) are
    ∙ ap (λ numbers. filter_map number_in (input_bits m) ++ numbers)
    (sym (ap (filter_map number_in) (ap (map (λ c. c.signal)) (ap (filter (λ c. is_cell_output c.role)) (connections-cells_in m.cells) ∙ filter-map (λ c. is_cell_output c.role) (connection_of m.cells) (bits_of_cells m.cells)))
    ∙ filter_map-map number_in (λ c. c.signal) (map (connection_of m.cells) (filter (λ bit. is_cell_output bit.role) (bits_of_cells m.cells)))
    ∙ filter_map-map (λ c. number_in c.signal) (connection_of m.cells) (filter (λ bit. is_cell_output bit.role) (bits_of_cells m.cells))))
    ∙ sym (filter_map-append number_in (input_bits m) (map (λ c. c.signal) (filter (λ c. is_cell_output c.role) (connections_of m))))

-- a list has a number where it has its bit
pub list_any-numbers : (b : ℕ) (signals : List Signal) → list_any (λ a. a == b) (filter_map number_in signals) ≡ list_any (is_bit b) signals
list_any-numbers b [] = refl
list_any-numbers b (Zero ∷ signals) = list_any-numbers b signals
list_any-numbers b (One ∷ signals) = list_any-numbers b signals
list_any-numbers b (Unknown ∷ signals) = list_any-numbers b signals
list_any-numbers b (HighZ ∷ signals) = list_any-numbers b signals
list_any-numbers b (Bit a ∷ signals) = ap (λ t. (a == b) || t) (list_any-numbers b signals)

-- the numbers of the input ports' bits, a port at a time
pub input_numbers_are : (ports : List PortDecl) → input_numbers_of ports ≡ filter_map number_in (input_bits_in ports)
input_numbers_are [] = refl
input_numbers_are (port ∷ ports) = further (is_input port.direction) port ports (input_numbers_are ports)
  where
    further : (kept : Bool) (port : PortDecl) (ports : List PortDecl) → input_numbers_of ports ≡ filter_map number_in (input_bits_in ports)
        → cond kept (filter_map number_in port.bits) [] ++ input_numbers_of ports ≡ filter_map number_in (flat_map (λ p. p.bits) (cond kept (port ∷ filter (λ p. is_input p.direction) ports) (filter (λ p. is_input p.direction) ports)))
    further true port ports e = ap (λ rest. filter_map number_in port.bits ++ rest) e ∙ sym (filter_map-append number_in port.bits (input_bits_in ports))
    further false port ports e = e
