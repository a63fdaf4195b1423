-- The first connection, or clock pin, that an error is about.
use Rattle.std.proofs.Common.{◌≡◌, ℕ, suc, ◌+◌, List, [], ◌∷◌, ◌++◌, map, Bool, true, false, not, ◌&&◌, ◌||◌, cond, Option, Some, None, refl, ap, ap₂, sym, ◌∙◌, arith}
use Rattle.std.specs.Prelude.{◌==◌, codes, unwrap_or, option_map, slice_get, find, filter, filter_map}
use Rattle.std.specs.List.{enumerate_from, flat_map, list_any, cons_option}
use Rattle.std.proofs.lemmas.List.{map-append}
use Rattle.std.proofs.lemmas.List.Elements.{filter_map-append}
use Rattle.std.proofs.lemmas.List.Folds.{list_any-append}
use Rattle.cs_base.specs.declared.signal.Signal.{Signal}
use Rattle.cs_base.specs.declared.signal.Signal.TheVariants.{Zero, One, Unknown, HighZ, Bit}
use Rattle.cs_json.specs.declared.document.Module.{Module}
use Rattle.cs_json.specs.declared.document.CellDecl.{CellDecl}
use Rattle.cs_json.specs.declared.document.NetDecl.{NetDecl}
use Rattle.cs_json.specs.declared.document.PinDecl.{PinDecl}
use Rattle.cs_json.specs.declared.document.PortDecl.{PortDecl}
use Rattle.cs_modules.specs.declared.connection.PinBit.{PinBit}
use Rattle.cs_modules.specs.declared.clocks.ClockBit.{ClockBit}
use Rattle.cs_conditions.specs.declared.error.NetError.{NetError}
use Rattle.cs_modules.specs.Signals.{is_bit, is_input, is_output, same, number_in}
use Rattle.cs_modules.specs.Digits.{digits_at, init_digit}
use Rattle.cs_modules.specs.Pins.{class_at, role_of, Connection, pin_bits, pin_connections, connections}
use Rattle.cs_conditions.specs.Conditions.{has_two_starts, first_where}
use Rattle.cs_modules.specs.Modules.{cells_in, is_scope, is_register, init_values, init_values_in, edge_of, ClockPin, clock_pin, first_clock, is_data_input, is_cell_output, reads_as_data, connections_of, driven_signals, input_bits, input_bits_in}
use Rattle.cs_conditions.specs.InitialNumbers.{register_numbers_of, given_number, numbers_given}
use Rattle.cs_modules.specs.PinBits.{bits_of_pin, bits_of_cell, bits_of_cells_from, bits_of_cells, connection_of, clock_bit_of, clock_bits_of, clock_pin_of, first_clock_of, input_numbers_of}
use Rattle.cs_modules.proofs.Connections.{clock_pins-cells, find-map, first_connection, option_map-map}

pub first_error : (test : Connection → Bool) (error : Connection → NetError) (cells : List CellDecl) (bits : List PinBit) (found : Option PinBit) → bits ≡ bits_of_cells cells → found ≡ find (λ bit. test (connection_of cells bit)) bits → option_map (λ bit. error (connection_of cells bit)) found ≡ first_where test error (connections (cells_in cells))
first_error test error cells bits found are is =
    ap (option_map (λ bit. error (connection_of cells bit))) (is ∙ ap (find (λ bit. test (connection_of cells bit))) are)
    ∙ sym (option_map-map error (connection_of cells) (find (λ bit. test (connection_of cells bit)) (bits_of_cells cells)))
    ∙ sym (ap (option_map error) (first_connection test cells))

-- an error about the first clock pin that passes a test
pub first_pin_error : (test : ClockPin → Bool) (error : ClockPin → NetError) (cells : List CellDecl) (pins : List ClockBit) (found : Option ClockBit) → pins ≡ clock_bits_of cells → found ≡ find (λ bit. test (clock_pin_of cells bit)) pins → option_map (λ bit. error (clock_pin_of cells bit)) found ≡ first_where test error (filter_map clock_pin (connections (cells_in cells)))
first_pin_error test error cells pins found are is =
    ap (option_map (λ bit. error (clock_pin_of cells bit))) (is ∙ ap (find (λ bit. test (clock_pin_of cells bit))) are)
    ∙ sym (option_map-map error (clock_pin_of cells) (find (λ bit. test (clock_pin_of cells bit)) (clock_bits_of cells)))
    ∙ sym (ap (option_map error) (ap (find test) (clock_pins-cells cells) ∙ find-map test (clock_pin_of cells) (clock_bits_of cells)))
