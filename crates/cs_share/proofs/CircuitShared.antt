-- The names that a circuit is written with, which have a clock where something is clocked, fit it; and a netlist with the
-- circuit's ports and clock has the data ports of the names.
use Rattle.std.proofs.Common.{◌≡◌, ◌∙◌, List, [], ◌∷◌, length, Bool, true, false, ◌&&◌, cond, Option, Some, None, ap, ap₂, filter, map, not, refl, subst, sym}
use Rattle.std.specs.Prelude.{flat_map, is_none, is_some}
use Rattle.std.specs.List.{AllByRecursion, count_by}
use Rattle.cs_base.specs.declared.signal.Signal.{Signal}
use Rattle.cs_base.specs.declared.signal.Signal.TheVariants.{Bit}
use Rattle.cs_graph.specs.declared.graph.Graph.{Graph}
use Rattle.cs_graph.specs.declared.vertex.Vertex.{Vertex}
use Rattle.cs_graph.specs.Kinds.{is_input}
use Rattle.cs_modules.specs.declared.clocks.Clock.{Clock}
use Rattle.cs_modules.specs.Signals.{is_input as is_input_port}
use Rattle.cs_net.specs.declared.netlist.Port.{Port}
use Rattle.cs_net.specs.Build.{port_of}
use Rattle.cs_net.specs.Drivers.{data_inputs, is_clock}
use Rattle.cs_net.proofs.PinLemmas.{same_port_bits}
use Rattle.cs_net.specs.Netlist.{Net}
use Rattle.cs_prefix.specs.Prefixes.{RegisterKey}
use Rattle.cs_share.specs.declared.types.Names.{Names}
use Rattle.cs_share.specs.Emission.{clocked_names}
use Rattle.cs_share.specs.Names.{AreNamesFor, is_output}
use Rattle.cs_share.specs.Ports.{data_numbers, input_signals, with_clock, written_clock, written_ports}
use Rattle.cs_share.specs.Shared.{has_some}
use Rattle.cs_share.proofs.CircuitClock.{fit_with, inputs_with, kept_all, outputs_with}
use Rattle.cs_share.proofs.CircuitNames.{HasFitPorts, HasNoBitZero, no_bit_zero, output_signals, ports_fit}
use Rattle.cs_share.proofs.CircuitPorts.{data_inputs_written, length_data}
use Rattle.cs_share.proofs.CircuitSignals.{AreCircuitNames}

module _ (g : Graph) (keys : List RegisterKey) (names : Names) (fit : AreNamesFor g names) where
  pub own_fit : HasFitPorts names
  own_fit = subst HasFitPorts (sym fit.of_net) (ports_fit fit.net fit.well_formed names.origins)

  own_above : HasNoBitZero names.ports
  own_above = subst (λ (n : Names). HasNoBitZero n.ports) (sym fit.of_net) (no_bit_zero fit.net fit.well_formed)

  own_inputs : length (data_numbers names) ≡ count_by (λ (x : Vertex). is_input x.kind) g.vertices
  own_inputs =
      length_data names
      ∙ ap (λ (n : Names). length (filter (λ s. not (is_clock n.clock s)) (input_signals n.ports))) fit.of_net
      ∙ fit.inputs

  own_outputs : length (output_signals names.ports) ≡ count_by (λ (x : Vertex). is_output x.kind) g.vertices
  own_outputs = ap (λ (n : Names). length (output_signals n.ports)) fit.of_net ∙ fit.outputs

  no_clock : (s : List _) → AllByRecursion (λ s. is_clock None s ≡ false) s
  no_clock [] = tt
  no_clock (x ∷ xs) = (refl, no_clock xs)

  with_clock_inputs : names.clock ≡ None
      → length (data_numbers (with_clock names)) ≡ count_by (λ (x : Vertex). is_input x.kind) g.vertices
  with_clock_inputs none =
      length_data (with_clock names)
      ∙ ap length (inputs_with names own_fit none own_above
      ∙ sym (kept_all (is_clock None) (input_signals names.ports) (no_clock (input_signals names.ports)))
      ∙ ap (λ c. filter (λ s. not (is_clock c s)) (input_signals names.ports)) (sym none))
      ∙ sym (length_data names) ∙ own_inputs

  some_or_none : (clock : Option Clock) → is_none clock ≡ false → is_some clock ≡ true
  some_or_none None h = absurd (cc)
  some_or_none (Some clock) h = refl

  is_none_of : (clock : Option Clock) → is_none clock ≡ true → clock ≡ None
  is_none_of None h = refl
  is_none_of (Some clock) h = absurd (cc)

  pub names_fit : AreCircuitNames g keys (clocked_names keys names)
  names_fit = by (is_none names.clock) (has_some keys) refl refl
    where
      by : (t u : Bool) → is_none names.clock ≡ t → has_some keys ≡ u
          → AreCircuitNames g keys (cond (t && u) (with_clock names) names)
      by true true t u = let none = is_none_of names.clock t in record {
        ports = fit_with names own_fit none own_above;
        inputs = with_clock_inputs none;
        outputs = ap length (outputs_with names own_fit none own_above) ∙ own_outputs;
        registers = λ h. refl;
        writes = λ h. refl;
      }
      by true false t u = record {
        ports = own_fit;
        inputs = own_inputs;
        outputs = own_outputs;
        registers = λ h. absurd (let never = sym u ∙ h in cc);
        writes = fit.clock;
      }
      by false u t v = record {
        ports = own_fit;
        inputs = own_inputs;
        outputs = own_outputs;
        registers = λ h. some_or_none names.clock t;
        writes = fit.clock;
      }

-- the data inputs of a netlist with the written ports of names and the written clock
pub data_inputs_are : (names : Names) → HasFitPorts names → (outs : List Signal) (net : Net)
    → net.ports ≡ map port_of (written_ports 2 outs names.ports) → net.clock ≡ written_clock names
    → data_inputs net ≡ map Bit (data_numbers names)
data_inputs_are names fit outs net ports clock =
    ap₂ (λ c ps. filter (λ s. not (is_clock c s)) (flat_map (λ (p : Port). p.bits) (filter (λ (p : Port). is_input_port p.direction) ps))) clock ports
    ∙ ap (filter (λ s. not (is_clock (written_clock names) s))) (same_port_bits is_input_port (written_ports 2 outs names.ports))
    ∙ data_inputs_written names fit outs
