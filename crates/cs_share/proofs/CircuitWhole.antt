-- The circuit of a machine is one, and a netlist with its ports and clock has the ports and outputs of the machine.
use Rattle.std.proofs.Common.{◌≡◌, ◌∙◌, List, [], ◌∷◌, ◌++◌, length, Bool, true, false, ◌&&◌, cond, Option, Some, None, ap, ap₂, arith, filter, map, not, refl, subst, sym}
use Rattle.std.specs.Prelude.{codes, flat_map, is_none}
use Rattle.std.specs.List.{AllByRecursion, count_by}
use Rattle.std.proofs.lemmas.List.{map-append, take_all}
use Rattle.std.proofs.lemmas.List.Elements.{filter-append}
use Rattle.cs_base.specs.declared.signal.Signal.{Signal}
use Rattle.cs_base.specs.declared.signal.Signal.TheVariants.{Bit}
use Rattle.cs_circuit.specs.declared.circuit.RegisterPart.{RegisterPart}
use Rattle.cs_circuit.specs.WellFormed.{IsCircuit, IsData}
use Rattle.cs_conditions.specs.Conditions.{is_inout}
use Rattle.cs_graph.specs.declared.graph.Graph.{Graph}
use Rattle.cs_graph.specs.declared.vertex.Vertex.{Vertex}
use Rattle.cs_graph.specs.Invariant.{IsMachine}
use Rattle.cs_graph.specs.Kinds.{is_input}
use Rattle.cs_json.specs.Readable.{is_below}
use Rattle.cs_modules.specs.declared.clocks.Clock.{Clock}
use Rattle.cs_modules.specs.Pins.{count_from}
use Rattle.cs_modules.specs.Signals.{is_bit}
use Rattle.cs_net.specs.declared.netlist.Port.{Port}
use Rattle.cs_net.specs.Build.{port_of}
use Rattle.cs_net.specs.Drivers.{data_inputs, data_outputs}
use Rattle.cs_net.specs.Isolates.{data_ports}
use Rattle.cs_net.specs.Netlist.{Net}
use Rattle.cs_prefix.specs.Prefixes.{RegisterKey}
use Rattle.cs_share.specs.declared.types.Names.{Names}
use Rattle.cs_share.specs.Emission.{clocked_names, shared_circuit}
use Rattle.cs_share.specs.Names.{AreNamesFor}
use Rattle.cs_share.specs.Ports.{clock_port, data_numbers, with_clock, with_clock_port, written_clock}
use Rattle.cs_share.specs.Registers.{AreRegisters}
use Rattle.cs_share.specs.Shared.{circuit_with, has_some, register_part, shown_signals}
use Rattle.cs_share.proofs.CircuitApart.{are_apart, input_count_is}
use Rattle.cs_share.proofs.CircuitClock.{all_kept, ports_whole}
use Rattle.cs_share.proofs.CircuitClocking.{clocking}
use Rattle.cs_share.proofs.CircuitDataPorts.{AreAlikePorts, all_written, free_written, order_written, ports_by, port_by, is_port_of, same_data_ports}
use Rattle.cs_share.proofs.CircuitNames.{HasNoBitZero, all_of_map, no_bit_zero, output_signals}
use Rattle.cs_share.proofs.CircuitPlaces.{have_places}
use Rattle.cs_share.proofs.CircuitPorts.{input_numbers, output_signals_written}
use Rattle.cs_share.proofs.CircuitShared.{data_inputs_are, names_fit, own_fit}
use Rattle.cs_share.proofs.CircuitShown.{all_places, data_outputs_are, data_ports_are, outs_apart, outs_are_data, outs_count}
use Rattle.cs_share.proofs.CircuitSignals.{AreCircuitNames, source_is_data}
use Rattle.cs_share.proofs.CircuitWired.{gates_fit, memories_fit}

-- ---- the circuit

module _ (g : Graph) (machine : IsMachine g) (keys : List RegisterKey) (are : AreRegisters g keys) (names : Names)
    (fit : AreCircuitNames g keys names) where
  registers_fit : AllByRecursion (λ (r : RegisterPart). IsData (written_clock names) r.source)
      (map (register_part g names keys) keys)
  registers_fit =
      all_of_map (λ (r : RegisterPart). IsData (written_clock names) r.source) (register_part g names keys) keys
      (all_places (λ key. IsData (written_clock names) (register_part g names keys key).source) keys
      (λ n key found. source_is_data g machine keys are names fit key (are.needed n key found)))

  abbrev shown : List Signal
  shown = flat_map (shown_signals g names keys) g.vertices

  circuit_fits : IsCircuit (circuit_with g keys names)
  circuit_fits =
      let count = outs_count g machine keys are names fit in record {
        ports_order = order_written 2 shown names.ports fit.ports.order;
        one_way = all_written (λ n d. is_inout d ≡ false) 2 shown names.ports fit.ports.one_way;
        not_reserved =
            free_written names fit.ports shown (outs_apart g machine keys are names fit) (omega (arith, count));
        inputs =
            input_numbers 2 shown names.ports
            ∙ ap (λ n. map Bit (count_from 2 n)) (sym (input_count_is g keys names));
        outputs =
            subst (AllByRecursion (IsData (written_clock names)))
            (sym (output_signals_written 2 shown names.ports
            ∙ take_all (length (output_signals names.ports)) shown (omega (arith, count))))
            (outs_are_data g machine keys are names fit);
        gates = gates_fit g machine keys are names fit;
        memories = memories_fit g machine keys are names fit;
        registers = registers_fit;
        apart = are_apart g machine keys are names fit;
        clocking = clocking g machine keys names fit;
        places = have_places g machine keys are names fit machine.well_formed.order;
      }

-- the circuit of a machine is one
pub shared_is_circuit : (g : Graph) (keys : List RegisterKey) (names : Names) → IsMachine g → AreRegisters g keys
    → AreNamesFor g names → IsCircuit (shared_circuit g keys names)
shared_is_circuit g keys names machine are fit =
    circuit_fits g machine keys are (clocked_names keys names) (names_fit g keys names fit)

-- ---- the data ports with the added clock

abbrev added : Option Clock
added = Some (record { bit = 0; rising = true })

no_clocks : (bits : List Signal) → AllByRecursion (λ s. is_bit 0 s ≡ false) bits
    → map (is_bit 0) bits ≡ map (λ (s : Signal). false) bits
no_clocks [] h = refl
no_clocks (s ∷ bits) h = ap₂ (λ t ts. t ∷ ts) h.0 (no_clocks bits h.1)

alike_with : (ports : List Port) → HasNoBitZero ports → AreAlikePorts None added ports ports
alike_with [] h = tt
alike_with (p ∷ ports) h =
    (record { name = refl; direction = refl; clocks = no_clocks p.bits h.0 }, alike_with ports h.1)

ports_append : (clock : Option Clock) (xs ys : List Port)
    → ports_by clock (xs ++ ys) ≡ ports_by clock xs ++ ports_by clock ys
ports_append clock xs ys =
    ap (map (port_by clock)) (filter-append (λ p. not (is_port_of clock p)) xs ys)
    ∙ map-append (port_by clock) (filter (λ p. not (is_port_of clock p)) xs)
    (filter (λ p. not (is_port_of clock p)) ys)

module _ (names : Names) (none : names.clock ≡ None) (above : HasNoBitZero names.ports) where
  abbrev low : List Port
  low = filter (λ p. is_below p.name (codes "cslow_clk")) names.ports

  abbrev high : List Port
  high = filter (λ p. not (is_below p.name (codes "cslow_clk"))) names.ports

  without : (test : Port → Bool)
      → ports_by added (filter test names.ports) ≡ ports_by None (filter test names.ports)
  without test =
      same_data_ports None added (filter test names.ports) (filter test names.ports)
      (alike_with (filter test names.ports)
      (all_kept (λ (p : Port). AllByRecursion (λ s. is_bit 0 s ≡ false) p.bits) test names.ports above))

  -- the port that is added holds the clock alone, so it is no data port
  ports_with : names.ports ≡ low ++ high
      → ports_by added (with_clock_port names.ports) ≡ ports_by None names.ports
  ports_with whole =
      ports_append added low (clock_port ∷ high)
      ∙ ap₂ (λ xs ys. xs ++ ys) (without (λ p. is_below p.name (codes "cslow_clk")))
      (without (λ p. not (is_below p.name (codes "cslow_clk"))))
      ∙ sym (ports_append None low high) ∙ ap (ports_by None) (sym whole)

-- ---- of a netlist

-- a netlist has the data inputs, outputs and data ports that one with a circuit's ports and clock is to have
pub record HasDataOf (g : Graph) (keys : List RegisterKey) (names : Names) (fit : AreNamesFor g names)
    (net : Net) : Type 0 where
  pub inputs : data_inputs net ≡ map Bit (data_numbers (clocked_names keys names))
  pub input_count : length (data_numbers (clocked_names keys names))
      ≡ count_by (λ (x : Vertex). is_input x.kind) g.vertices
  pub outputs : data_outputs net ≡ flat_map (shown_signals g (clocked_names keys names) keys) g.vertices
  pub ports : data_ports net ≡ data_ports fit.net

module _ (g : Graph) (keys : List RegisterKey) (names : Names) (fit : AreNamesFor g names) where
  ports_stay : ports_by (clocked_names keys names).clock (clocked_names keys names).ports
      ≡ ports_by names.clock names.ports
  ports_stay = by (is_none names.clock) (has_some keys) refl
    where
      is_none_of : (clock : Option Clock) → is_none clock ≡ true → clock ≡ None
      is_none_of None h = refl
      is_none_of (Some clock) h = absurd (cc)

      above : HasNoBitZero names.ports
      above = subst (λ (n : Names). HasNoBitZero n.ports) (sym fit.of_net) (no_bit_zero fit.net fit.well_formed)

      by : (t u : Bool) → is_none names.clock ≡ t
          → ports_by (cond (t && u) (with_clock names) names).clock (cond (t && u) (with_clock names) names).ports
          ≡ ports_by names.clock names.ports
      by true true t =
          let none = is_none_of names.clock t in
          ports_with names none above (ports_whole names (own_fit g keys names fit) none above)
          ∙ ap (λ c. ports_by c names.ports) (sym none)
      by true false t = refl
      by false u t = refl

  pub has_data_of : IsMachine g → AreRegisters g keys → (net : Net)
      → net.ports ≡ map port_of (shared_circuit g keys names).ports → net.clock
      ≡ (shared_circuit g keys names).clock
      → HasDataOf g keys names fit net
  has_data_of machine are net ports clock =
      let own = names_fit g keys names fit in record {
        inputs =
            data_inputs_are (clocked_names keys names) own.ports
            (flat_map (shown_signals g (clocked_names keys names) keys) g.vertices) net ports clock;
        input_count = own.inputs;
        outputs = data_outputs_are g machine keys are (clocked_names keys names) own net ports clock;
        ports =
            data_ports_are g machine keys are (clocked_names keys names) own net ports clock ∙ ports_stay
            ∙ ap (λ (n : Names). ports_by n.clock n.ports) fit.of_net;
      }
