-- The initial values that nets give a bit, and the lists of the bits that they give each value.
use Rattle.std.proofs.Common.{◌≡◌, ℕ, suc, ◌+◌, List, [], ◌∷◌, ◌++◌, map, Bool, true, false, not, ◌&&◌, ◌||◌, cond, Option, Some, None, refl, ap, ap₂, sym, ◌∙◌, arith}
use Rattle.std.specs.Prelude.{◌==◌, codes, unwrap_or, option_map, slice_get, find, filter, filter_map}
use Rattle.std.specs.List.{enumerate_from, flat_map, list_any, cons_option}
use Rattle.std.proofs.lemmas.List.{map-append}
use Rattle.std.proofs.lemmas.List.Elements.{filter_map-append}
use Rattle.std.proofs.lemmas.List.Folds.{list_any-append}
use Rattle.cs_base.specs.declared.signal.Signal.{Signal}
use Rattle.cs_base.specs.declared.signal.Signal.TheVariants.{Zero, One, Unknown, HighZ, Bit}
use Rattle.cs_json.specs.declared.document.Module.{Module}
use Rattle.cs_json.specs.declared.document.CellDecl.{CellDecl}
use Rattle.cs_json.specs.declared.document.NetDecl.{NetDecl}
use Rattle.cs_json.specs.declared.document.PinDecl.{PinDecl}
use Rattle.cs_json.specs.declared.document.PortDecl.{PortDecl}
use Rattle.cs_modules.specs.declared.connection.PinBit.{PinBit}
use Rattle.cs_modules.specs.declared.clocks.ClockBit.{ClockBit}
use Rattle.cs_conditions.specs.declared.error.NetError.{NetError}
use Rattle.cs_modules.specs.Signals.{is_bit, is_input, is_output, same, number_in}
use Rattle.cs_modules.specs.Digits.{digits_at, init_digit}
use Rattle.cs_modules.specs.Pins.{class_at, role_of, Connection, pin_bits, pin_connections, connections}
use Rattle.cs_conditions.specs.Conditions.{has_two_starts, first_where}
use Rattle.cs_modules.specs.Modules.{cells_in, is_scope, is_register, init_values, init_values_in, edge_of, ClockPin, clock_pin, first_clock, is_data_input, is_cell_output, reads_as_data, connections_of, driven_signals, input_bits, input_bits_in}
use Rattle.cs_conditions.specs.InitialNumbers.{register_numbers_of, given_number, numbers_given}
use Rattle.cs_modules.specs.PinBits.{bits_of_pin, bits_of_cell, bits_of_cells_from, bits_of_cells, connection_of, clock_bit_of, clock_bits_of, clock_pin_of, first_clock_of, input_numbers_of}

-- the numbers of the registers' bits, a cell at a time
pub register_numbers_are : (cells : List CellDecl) → register_numbers_of cells ≡ filter_map number_in (flat_map (λ cell. pin_bits cell.pins (codes "Q")) (filter (λ cell. is_register (class_at cell)) cells))
register_numbers_are [] = refl
register_numbers_are (cell ∷ cells) = further (is_register (class_at cell)) cell cells (register_numbers_are cells)
  where
    further : (kept : Bool) (cell : CellDecl) (cells : List CellDecl) → register_numbers_of cells ≡ filter_map number_in (flat_map (λ cell. pin_bits cell.pins (codes "Q")) (filter (λ cell. is_register (class_at cell)) cells))
        → cond kept (filter_map number_in (pin_bits cell.pins (codes "Q"))) [] ++ register_numbers_of cells ≡ filter_map number_in (flat_map (λ cell. pin_bits cell.pins (codes "Q")) (cond kept (cell ∷ filter (λ cell. is_register (class_at cell)) cells) (filter (λ cell. is_register (class_at cell)) cells)))
    further true cell cells e = ap (λ rest. filter_map number_in (pin_bits cell.pins (codes "Q")) ++ rest) e ∙ sym (filter_map-append number_in (pin_bits cell.pins (codes "Q")) (flat_map (λ cell. pin_bits cell.pins (codes "Q")) (filter (λ cell. is_register (class_at cell)) cells)))
    further false cell cells e = e

-- ---- initial values

-- whether a list of initial values has this one
has_value : Bool → List Bool → Bool
has_value value values = list_any (λ found. same found value) values

one_value : (is_kept is_it : Bool) (test : ℕ → Bool) (a : ℕ) (found value : Bool) (numbers : List ℕ) (values : List Bool) → test a ≡ is_it → same found value ≡ is_kept → list_any test numbers ≡ has_value value values
    → list_any test (cons_option (cond is_kept (Some a) None) numbers) ≡ has_value value (cons_option (cond is_it (Some found) None) values)
unfolding has_value
one_value true true test a found value numbers values it kept e = rw (it, kept) refl
one_value true false test a found value numbers values it kept e = rw it e
one_value false true test a found value numbers values it kept e = rw kept e
one_value false false test a found value numbers values it kept e = e

no_bit : (value : Bool) (digit : Option Bool) (signal : Signal) → number_in signal ≡ None → given_number value digit signal ≡ None
no_bit value None signal none = refl
no_bit value (Some found) signal none = further (same found value)
  where
    further : (kept : Bool) → cond kept (number_in signal) None ≡ None
    further true = none
    further false = refl

bit_given : (value : Bool) (digit : Option Bool) (b a : ℕ) (numbers : List ℕ) (values : List Bool) → list_any (λ a. a == b) numbers ≡ has_value value values
    → list_any (λ a. a == b) (cons_option (given_number value digit (Bit a)) numbers) ≡ has_value value (cons_option (cond (a == b) digit None) values)
bit_given value None b a numbers values e = further (a == b)
  where
    further : (it : Bool) → list_any (λ a. a == b) numbers ≡ has_value value (cons_option (cond it None None) values)
    further true = e
    further false = e
bit_given value (Some found) b a numbers values e = one_value (same found value) (a == b) (λ a. a == b) a found value numbers values refl refl e

signal_given : (value : Bool) (digit : Option Bool) (b : ℕ) (signal : Signal) (numbers : List ℕ) (values : List Bool) → list_any (λ a. a == b) numbers ≡ has_value value values
    → list_any (λ a. a == b) (cons_option (given_number value digit signal) numbers) ≡ has_value value (cons_option (cond (is_bit b signal) digit None) values)
signal_given value digit b Zero numbers values e = rw (no_bit value digit Zero refl) e
signal_given value digit b One numbers values e = rw (no_bit value digit One refl) e
signal_given value digit b Unknown numbers values e = rw (no_bit value digit Unknown refl) e
signal_given value digit b HighZ numbers values e = rw (no_bit value digit HighZ refl) e
signal_given value digit b (Bit a) numbers values e = bit_given value digit b a numbers values e

digits_given : (value : Bool) (ds : List ℕ) (b : ℕ) (es : List (ℕ × Signal))
    → list_any (λ a. a == b) (filter_map (λ e. given_number value (init_digit ds e.0) e.1) es) ≡ has_value value (filter_map (λ e. cond (is_bit b e.1) (init_digit ds e.0) None) es)
unfolding has_value
digits_given value ds b [] = refl
digits_given value ds b (e ∷ es) = signal_given value (init_digit ds e.0) b e.1 _ _ (digits_given value ds b es)

-- nets give a bit an initial value where their lists of bits so given have it
nets_given : (value : Bool) (b : ℕ) (nets : List NetDecl) → list_any (λ a. a == b) (flat_map (numbers_given value) nets) ≡ has_value value (flat_map (init_values_in b) nets)
unfolding has_value
nets_given value b [] = refl
nets_given value b (net ∷ nets) =
    list_any-append (λ a. a == b) (numbers_given value net) (flat_map (numbers_given value) nets)
    ∙ ap₂ (λ here rest. here || rest) (digits_given value (digits_at (codes "init") net.attributes) b (enumerate_from 0 net.bits)) (nets_given value b nets)
    ∙ sym (list_any-append (λ found. same found value) (init_values_in b net) (flat_map (init_values_in b) nets))

has_one : (values : List Bool) → has_value true values ≡ list_any (λ value. value) values
unfolding has_value
has_one [] = refl
has_one (true ∷ values) = refl
has_one (false ∷ values) = has_one values

has_zero : (values : List Bool) → has_value false values ≡ list_any not values
unfolding has_value
has_zero [] = refl
has_zero (true ∷ values) = has_zero values
has_zero (false ∷ values) = refl

pub given_both : (m : Module) (b : ℕ) → (list_any (λ a. a == b) (flat_map (numbers_given true) m.nets) && list_any (λ a. a == b) (flat_map (numbers_given false) m.nets)) ≡ has_two_starts m b
given_both m b =
    ap₂ (λ one zero. one && zero) (nets_given true b m.nets ∙ has_one (init_values m b)) (nets_given false b m.nets ∙ has_zero (init_values m b))
