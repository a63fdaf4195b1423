-- None of the conditions on modules holds of the module of a circuit.
use Rattle.std.proofs.Common.{◌≡◌, ℕ, ◌+◌, ◌<◌, List, [], ◌∷◌, ◌++◌, map, Bool, true, false, not, ◌&&◌, ◌||◌, cond, Option, Some, None, refl, sym, ap, ap₂, subst, ◌∙◌, eq-eqb}
use Rattle.std.specs.Prelude.{filter, filter_map, find, flat_map, option_and_then, option_map, ◌==◌}
use Rattle.std.specs.List.{AllByRecursion, cons_option, list_any}
use Rattle.std.proofs.lemmas.List.Elements.{filter_map-append}
use Rattle.cs_base.specs.declared.signal.Signal.{Signal}
use Rattle.cs_base.specs.declared.signal.Signal.TheVariants.{Bit}
use Rattle.cs_json.specs.declared.document.Module.{Module}
use Rattle.cs_json.specs.declared.document.PortDecl.{PortDecl}
use Rattle.cs_json.specs.declared.document.CellDecl.{CellDecl}
use Rattle.cs_json.specs.declared.document.NetDecl.{NetDecl}
use Rattle.cs_cells.specs.declared.class.Class.{Class}
use Rattle.cs_cells.specs.declared.class.Class.TheVariants as class
use Rattle.cs_conditions.specs.declared.error.NetError.{NetError}
use Rattle.cs_conditions.specs.declared.error.NetError.TheVariants.{ClockAsData, ClockNotInput, ConstZ, Reserved, TwoDrivers, TwoStarts}
use Rattle.cs_conditions.specs.Conditions.{asynchronous, bad_pins, clock_as_data, clock_not_input, const_z, duplicates, early_refusal, error_if, has_two_starts, inout, is_asynchronous, is_inout, is_misformed, is_not_fine, is_open_input, is_open_output, is_reserved, is_unknown, least, memory_form, mixed_edges, not_fine, of_clock, or_else, broken_rule, reserved, two_clocks, two_drivers, two_starts, unknown_cell}
use Rattle.cs_modules.specs.declared.clocks.Clock.{Clock}
use Rattle.cs_modules.specs.declared.connection.Role.{Role}
use Rattle.cs_modules.specs.declared.connection.Role.TheVariants as roles
use Rattle.cs_modules.specs.Modules.{ClockPin, cells_of, clock_of, clock_pin, clock_pins, connections_of, driven_signals, first_clock, input_bits, is_cell_input, is_cell_output, is_data_input, is_scope, output_bits, output_bits_in, reads_as_data, register_bits}
use Rattle.cs_modules.specs.Pins.{Connection, cell_connections, class_at, connections, count_from, has_right_pins}
use Rattle.cs_modules.specs.Signals.{is_bit, is_bit_of, is_high_z, is_output, number_in, same}
use Rattle.cs_net.specs.Drivers.{is_clock}
use Rattle.cs_net.proofs.ClockPins.{counts}
use Rattle.cs_net.proofs.Members.{Has, any_of, has_in_map}
use Rattle.cs_circuit.specs.declared.circuit.Circuit.{Circuit}
use Rattle.cs_circuit.specs.Cells.{clock_signal, is_rising}
use Rattle.cs_circuit.specs.Documents.{circuit_cells, circuit_module, circuit_nets}
use Rattle.cs_circuit.specs.Order.{IsInNameOrder}
use Rattle.cs_circuit.specs.WellFormed.{IsCircuit, IsData, clocked, input_count, is_clocked, unclocked}
use Rattle.cs_circuit.proofs.ClockPins.{IsFinePin, clocked_cell, fine_pins, first_is_clock, has_clock_pin, no_pins}
use Rattle.cs_circuit.proofs.Connections.{IsFineCell, IsFineConnection, IsFineRole, driven_in, driven_in-chain, is_part}
use Rattle.cs_circuit.proofs.Driven.{circuit_drives_once, drives_of}
use Rattle.cs_circuit.proofs.FineCells.{circuit_cells_are_fine}
use Rattle.cs_circuit.proofs.Lists.{all_flat, all_kept, all_step, everywhere, none_any, none_found, none_kept, once_permuted, split_all}
use Rattle.cs_circuit.proofs.Orders.{all_permuted, has_permuted}
use Rattle.cs_circuit.proofs.Starts.{never_two}

-- ---- classes

counts_as_cell : (c : Class) → is_part c ≡ true → not (is_scope c) ≡ true
counts_as_cell (class.Gate kind) h = refl
counts_as_cell (class.Register kind) h = refl
counts_as_cell class.Memory h = refl
counts_as_cell class.Scope h = absurd (cc)
counts_as_cell class.Asynchronous h = absurd (cc)
counts_as_cell class.NotFine h = absurd (cc)
counts_as_cell class.Unknown h = absurd (cc)

is_known : (c : Class) → is_part c ≡ true → is_unknown c ≡ false
is_known (class.Gate kind) h = refl
is_known (class.Register kind) h = refl
is_known class.Memory h = refl
is_known class.Scope h = refl
is_known class.Asynchronous h = refl
is_known class.NotFine h = refl
is_known class.Unknown h = absurd (cc)

is_not_coarse : (c : Class) → is_part c ≡ true → is_not_fine c ≡ false
is_not_coarse (class.Gate kind) h = refl
is_not_coarse (class.Register kind) h = refl
is_not_coarse class.Memory h = refl
is_not_coarse class.Scope h = refl
is_not_coarse class.Asynchronous h = refl
is_not_coarse class.NotFine h = absurd (cc)
is_not_coarse class.Unknown h = refl

is_synchronous : (c : Class) → is_part c ≡ true → is_asynchronous c ≡ false
is_synchronous (class.Gate kind) h = refl
is_synchronous (class.Register kind) h = refl
is_synchronous class.Memory h = refl
is_synchronous class.Scope h = refl
is_synchronous class.Asynchronous h = absurd (cc)
is_synchronous class.NotFine h = refl
is_synchronous class.Unknown h = refl

-- ---- connections

clock_closed : (clock : Option Clock) → is_high_z (clock_signal clock) ≡ false
clock_closed None = refl
clock_closed (Some clock) = refl

closed_role : (k : Circuit) (s : Signal) (role : Role) → IsFineRole k s role
    → (is_cell_input role && is_high_z s) ≡ false
closed_role k s roles.Data fine = fine.0
closed_role k s (roles.Clock rising) fine = ap is_high_z fine.0 ∙ clock_closed k.clock
closed_role k s roles.Output fine = refl
closed_role k s roles.Unused fine = refl

apart_role : (k : Circuit) (clock : Clock) (s : Signal) (role : Role) → k.clock ≡ Some clock
    → IsFineRole k s role
    → (is_data_input role && is_bit clock.bit s) ≡ false
apart_role k clock s roles.Data is fine = sym (ap (λ c. is_clock c s) is) ∙ fine.1
apart_role k clock s (roles.Clock rising) is fine = refl
apart_role k clock s roles.Output is fine = refl
apart_role k clock s roles.Unused is fine = refl

same_itself : (t : Bool) → not (same t t) ≡ false
same_itself true = refl
same_itself false = refl

numbers_in_bits : (xs : List ℕ) → filter_map number_in (map Bit xs) ≡ xs
numbers_in_bits [] = refl
numbers_in_bits (n ∷ xs) = ap (λ rest. n ∷ rest) (numbers_in_bits xs)

module _ (k : Circuit) (is : IsCircuit k) (cells : List CellDecl) (nets : List NetDecl)
    (of_cells : IsInNameOrder (λ (c : CellDecl). c.name) (circuit_cells k) cells)
    (of_nets : IsInNameOrder (λ (n : NetDecl). n.name) (circuit_nets k) nets) where
  abbrev pub made : Module
  made = circuit_module k cells nets

  pub cells_are_fine : AllByRecursion (IsFineCell k) cells
  cells_are_fine = all_permuted (IsFineCell k) (circuit_cells k) cells of_cells.same
      (circuit_cells_are_fine k is)

  pub same_cells : cells_of made ≡ cells
  same_cells =
      all_kept (λ (c : CellDecl). not (is_scope (class_at c))) cells
      (all_step (IsFineCell k) (λ (c : CellDecl). not (is_scope (class_at c)) ≡ true)
      (λ c fine. counts_as_cell (class_at c) fine.part) cells cells_are_fine)

  -- a test that no cell passes
  no_cell : (test : CellDecl → Bool) → ((c : CellDecl) → IsFineCell k c → test c ≡ false) → find test
      (cells_of made) ≡ None
  no_cell test fails =
      ap (find test) same_cells ∙ none_found test cells
      (all_step (IsFineCell k) (λ c. test c ≡ false) fails cells cells_are_fine)

  connections_are_fine : AllByRecursion (IsFineConnection k) (connections_of made)
  connections_are_fine =
      subst (λ cs. AllByRecursion (IsFineConnection k) (connections cs)) (sym same_cells)
      (all_flat (IsFineConnection k) cell_connections cells
      (all_step (IsFineCell k) (λ c. AllByRecursion (IsFineConnection k) (cell_connections c))
      (λ c fine. fine.connections) cells cells_are_fine))

  -- ---- 2 to 6

  no_unknown : unknown_cell made ≡ None
  no_unknown = ap (option_map _)
      (no_cell (λ c. is_unknown (class_at c)) (λ c fine. is_known (class_at c) fine.part))

  none_coarse : not_fine made ≡ None
  none_coarse = ap (option_map _)
      (no_cell (λ c. is_not_fine (class_at c)) (λ c fine. is_not_coarse (class_at c) fine.part))

  none_asynchronous : asynchronous made ≡ None
  none_asynchronous = ap (option_map _)
      (no_cell (λ c. is_asynchronous (class_at c)) (λ c fine. is_synchronous (class_at c) fine.part))

  no_bad_pins : bad_pins made ≡ None
  no_bad_pins = ap (option_map _) (no_cell (λ c. not (has_right_pins c)) (λ c fine. ap not fine.right))

  no_inout : inout made ≡ None
  no_inout = ap (option_map _) (none_found (λ (p : PortDecl). is_inout p.direction) k.ports is.one_way)

  -- ---- 7

  ports_closed : (ports : List PortDecl) → AllByRecursion (IsData k.clock) (output_bits_in ports)
      → find is_open_output ports ≡ None
  ports_closed [] h = refl
  ports_closed (p ∷ ports) h =
      elim (is_output p.direction) as
      (λ t. AllByRecursion (IsData k.clock)
      (flat_map (λ (q : PortDecl). q.bits)
      (cond t (p ∷ filter (λ (q : PortDecl). is_output q.direction) ports)
      (filter (λ (q : PortDecl). is_output q.direction) ports))) → cond
      (t && list_any is_high_z p.bits) (Some p) (find is_open_output ports) ≡ None) [
        | true ↦ λ all.
            let parts = split_all (IsData k.clock) p.bits (output_bits_in ports) all in
            rw (none_any is_high_z p.bits
            (all_step (IsData k.clock) (λ s. is_high_z s ≡ false) (λ s d. d.closed) p.bits parts.0))
            (ports_closed ports parts.1)
        | false ↦ λ all. ports_closed ports all
      ] h

  no_open : const_z made ≡ None
  no_open =
      ap₂ (λ x y. or_else (option_map (λ (c : Connection). ConstZ c.cell) x)
      (option_map (λ (p : PortDecl). ConstZ p.name) y))
      (none_found is_open_input (connections_of made)
      (all_step (IsFineConnection k) (λ c. is_open_input c ≡ false)
      (λ c fine. closed_role k c.signal c.role fine) (connections_of made) connections_are_fine))
      (ports_closed k.ports is.outputs)

  -- ---- 8

  pub driven_numbers : filter_map number_in (driven_signals made) ≡ count_from 2 (input_count k)
      ++ flat_map drives_of cells
  driven_numbers =
      filter_map-append number_in (input_bits made)
      (map (λ (c : Connection). c.signal)
      (filter (λ (c : Connection). is_cell_output c.role) (connections_of made)))
      ∙ ap₂ (λ xs ys. xs ++ ys)
      (ap (filter_map number_in) is.inputs ∙ numbers_in_bits (count_from 2 (input_count k)))
      (ap (λ cs. driven_in (connections cs)) same_cells ∙ driven_in-chain cell_connections cells)

  driven_once : two_drivers made ≡ None
  driven_once =
      ap (λ ns. option_map TwoDrivers (least (duplicates ns))) driven_numbers
      ∙ ap (λ ns. option_map TwoDrivers (least ns))
      (once_permuted drives_of (count_from 2 (input_count k)) (circuit_cells k) cells of_cells.same
      (circuit_drives_once k is))

  -- ---- 9 to 12

  pins_are_fine : AllByRecursion (IsFinePin k) (clock_pins made)
  pins_are_fine = fine_pins k (connections_of made) connections_are_fine

  record ClockConditions : Type 0 where
    of_module : clock_of made ≡ k.clock
    is_input : clock_not_input made ≡ None
    one_clock : of_clock two_clocks made ≡ None
    one_edge : of_clock mixed_edges made ≡ None
    no_data : of_clock clock_as_data made ≡ None

  -- where nothing is clocked
  without : is_clocked k ≡ false → k.clock ≡ None → ClockConditions
  without none no_clock =
      let pins = no_pins k (clock_pins made) pins_are_fine none in
      let none_of : (f : Clock → Module → Option NetError) → of_clock f made ≡ None = λ f. ap
      (option_and_then (λ e. f e made)) (ap first_clock pins) in
      record {
        of_module = ap first_clock pins ∙ sym no_clock;
        is_input = ap (λ ps. option_map (λ (p : ClockPin). ClockNotInput p.signal)
            (find (λ (p : ClockPin). not (is_bit_of (input_bits made) p.signal)) ps)) pins;
        one_clock = none_of two_clocks;
        one_edge = none_of mixed_edges;
        no_data = none_of clock_as_data;
      }

  -- where something is clocked
  module _ (place : ℕ) (rising : Bool) (some : is_clocked k ≡ true) (below : place < input_count k)
      (clock : k.clock ≡ Some (record { bit = 2 + place; rising = rising })) where
    abbrev the_clock : Clock
    the_clock = record { bit = 2 + place; rising = rising }

    clock_is : clock_of made ≡ Some the_clock
    clock_is =
        let cell = clocked_cell k some in
        let among = has_permuted (circuit_cells k) cells cell.cell of_cells.same cell.among in
        let pin = has_clock_pin cells cell.cell among cell.has_pin in
        first_is_clock k the_clock (clock_pins made) pin.0 clock pins_are_fine
        (subst (λ cs. Has (filter_map clock_pin (connections cs)) pin.0) (sym same_cells) pin.1)

    pin_signal : (p : ClockPin) → IsFinePin k p → p.signal ≡ Bit (2 + place)
    pin_signal p fine = fine.signal ∙ ap clock_signal clock

    no_pin : (test : ClockPin → Bool) → ((p : ClockPin) → IsFinePin k p → test p ≡ false) → find test
        (clock_pins made) ≡ None
    no_pin test fails = none_found test (clock_pins made)
        (all_step (IsFinePin k) (λ p. test p ≡ false) fails (clock_pins made) pins_are_fine)

    among_inputs : list_any (is_bit (2 + place)) (input_bits made) ≡ true
    among_inputs =
        ap (list_any (is_bit (2 + place))) is.inputs
        ∙ any_of (is_bit (2 + place)) (map Bit (count_from 2 (input_count k))) (Bit (2 + place))
        (has_in_map Bit (count_from 2 (input_count k)) (2 + place)
        (place, counts 2 (input_count k) place below))
        (eq-eqb (2 + place) (2 + place) refl)

    clock_is_input : clock_not_input made ≡ None
    clock_is_input =
        ap (option_map _)
        (no_pin (λ p. not (is_bit_of (input_bits made) p.signal))
        (λ p fine. ap (λ s. not (is_bit_of (input_bits made) s)) (pin_signal p fine) ∙ ap not among_inputs))

    same_numbers : (pins : List ClockPin) → AllByRecursion (IsFinePin k) pins
        → AllByRecursion (λ b. not (b == 2 + place) ≡ false)
        (filter_map (λ (p : ClockPin). number_in p.signal) pins)
    same_numbers [] fine = tt
    same_numbers (p ∷ pins) fine =
        subst (λ o. AllByRecursion (λ b. not (b == 2 + place) ≡ false)
        (cons_option o (filter_map (λ (q : ClockPin). number_in q.signal) pins)))
        (sym (ap number_in (pin_signal p fine.0)))
        (ap not (eq-eqb (2 + place) (2 + place) refl), same_numbers pins fine.1)

    one_clock_alone : two_clocks the_clock made ≡ None
    one_clock_alone =
        ap (option_map _)
        (none_found (λ b. not (b == 2 + place))
        (filter_map (λ (p : ClockPin). number_in p.signal) (clock_pins made))
        (same_numbers (clock_pins made) pins_are_fine))

    one_edge_alone : mixed_edges the_clock made ≡ None
    one_edge_alone =
        ap (option_map _)
        (no_pin (λ p. not (same p.rising rising))
        (λ p fine. ap (λ t. not (same t rising)) (fine.rising ∙ ap is_rising clock) ∙ same_itself rising))

    no_cell_reads : list_any (reads_as_data (2 + place)) (connections_of made) ≡ false
    no_cell_reads =
        none_any (reads_as_data (2 + place)) (connections_of made)
        (all_step (IsFineConnection k) (λ c. reads_as_data (2 + place) c ≡ false)
        (λ c fine. apart_role k the_clock c.signal c.role clock fine)
        (connections_of made) connections_are_fine)

    no_output_reads : list_any (is_bit (2 + place)) (output_bits made) ≡ false
    no_output_reads =
        none_any (is_bit (2 + place)) (output_bits_in k.ports)
        (all_step (IsData k.clock) (λ s. is_bit (2 + place) s ≡ false)
        (λ s d. sym (ap (λ c. is_clock c s) clock) ∙ d.apart)
        (output_bits_in k.ports) is.outputs)

    not_read : clock_as_data the_clock made ≡ None
    not_read = ap₂ (λ a b. error_if (a || b) (ClockAsData (2 + place))) no_cell_reads no_output_reads

    asked : (f : Clock → Module → Option NetError) → f the_clock made ≡ None → of_clock f made ≡ None
    asked f none = ap (option_and_then (λ e. f e made)) clock_is ∙ none

    with_clock : ClockConditions
    with_clock = record {
      of_module = clock_is ∙ sym clock;
      is_input = clock_is_input;
      one_clock = asked two_clocks one_clock_alone;
      one_edge = asked mixed_edges one_edge_alone;
      no_data = asked clock_as_data not_read;
    }

  clock_conditions : ClockConditions
  clock_conditions = elim is.clocking [
    | unclocked none clock ↦ without none clock
    | clocked place rising some below clock ↦ with_clock place rising some below clock
  ]

  pub clock-made : clock_of made ≡ k.clock
  clock-made = clock_conditions.of_module

  -- ---- 13 and 14

  starts_once : two_starts made ≡ None
  starts_once =
      ap (λ bits. option_map TwoStarts (least bits))
      (none_kept (has_two_starts made) (register_bits made)
      (everywhere (λ b. has_two_starts made b ≡ false) (λ b. never_two k nets of_nets.same b)
      (register_bits made)))

  none_misformed : memory_form made ≡ None
  none_misformed = ap (option_and_then (broken_rule made))
      (no_cell (is_misformed made) (λ c fine. fine.formed made))

  -- ---- all of them

  pub none_early : early_refusal made ≡ None
  unfolding early_refusal
  none_early =
      rw (
        no_unknown,
        none_coarse,
        none_asynchronous,
        no_bad_pins,
        no_inout,
        no_open,
        driven_once,
        clock_conditions.is_input,
        clock_conditions.one_clock,
        clock_conditions.one_edge,
        clock_conditions.no_data,
        starts_once,
        none_misformed,
      ) refl

  pub none_reserved : reserved made ≡ None
  unfolding reserved
  none_reserved =
      ap (λ c. option_map (λ (p : PortDecl). Reserved p.name) (find (λ p. is_reserved c p) k.ports)) clock-made
      ∙ ap (option_map (λ (p : PortDecl). Reserved p.name))
      (none_found (λ p. is_reserved k.clock p) k.ports is.not_reserved)
