-- The outputs of a circuit: one data signal for each Output, so that its ports are those of the names.
use Rattle.std.proofs.Common.{◌≡◌, ◌∙◌, ℕ, suc, ◌+◌, List, [], ◌∷◌, length, Bool, false, cond, Some, ap, ap₂, arith, filter, map, refl, sym}
use Rattle.std.specs.Prelude.{flat_map, slice_get}
use Rattle.std.specs.List.{AllByRecursion, count_by, sum_by}
use Rattle.std.proofs.lemmas.List.{length-map, take_all}
use Rattle.std.proofs.lemmas.List.Concat.{length-flat_map}
use Rattle.std.proofs.lemmas.List.Sums.{sum_by-cons}
use Rattle.cs_base.specs.declared.signal.Signal.{Signal}
use Rattle.cs_circuit.specs.WellFormed.{IsData}
use Rattle.cs_graph.specs.declared.graph.Graph.{Graph}
use Rattle.cs_graph.specs.declared.memory.Memory.{Memory}
use Rattle.cs_graph.specs.declared.vertex.Feed.{Feed}
use Rattle.cs_graph.specs.declared.vertex.Vertex.{Vertex}
use Rattle.cs_graph.specs.declared.vertex.VertexKind.{VertexKind}
use Rattle.cs_graph.specs.declared.vertex.VertexKind.TheVariants.{Host, Input, Output, Constant, Gate, Read, Write as WritePort}
use Rattle.cs_graph.specs.Invariant.{IsMachine}
use Rattle.cs_graph.specs.Kinds.{pin_count}
use Rattle.cs_modules.specs.Signals.{is_output as is_output_port}
use Rattle.cs_net.specs.declared.netlist.Port.{Port}
use Rattle.cs_net.specs.Build.{port_of}
use Rattle.cs_net.specs.Drivers.{data_outputs, is_clock}
use Rattle.cs_net.specs.Isolates.{data_ports}
use Rattle.cs_net.specs.Netlist.{Net}
use Rattle.cs_net.proofs.PinLemmas.{same_port_bits}
use Rattle.cs_prefix.specs.Prefixes.{RegisterKey}
use Rattle.cs_share.specs.declared.types.Names.{Names}
use Rattle.cs_share.specs.Names.{is_output}
use Rattle.cs_share.specs.Ports.{written_clock, written_ports}
use Rattle.cs_share.specs.Registers.{AreRegisters}
use Rattle.cs_share.specs.Shared.{pin_signal, pin_signals, shown_by, shown_signals}
use Rattle.cs_share.proofs.CircuitClock.{all_in_chain, all_mapped}
use Rattle.cs_share.proofs.CircuitDataPorts.{ports_by, same_data_ports, written_alike}
use Rattle.cs_share.proofs.CircuitNames.{all_of_map, output_signals}
use Rattle.cs_share.proofs.CircuitPorts.{output_signals_written}
use Rattle.cs_share.proofs.CircuitSignals.{AreCircuitNames, pin_is_data, pin_origin}

pub all_places : {A : Type 0} (P : A → Type 0) (xs : List A) → ((i : ℕ) (x : A) → slice_get xs i ≡ Some x → P x) → AllByRecursion P xs
all_places P [] each = tt
all_places P (x ∷ xs) each = (each 0 x refl, all_places P xs (λ i y at. each (suc i) y at))

abbrev once : Bool → ℕ
once t = cond t 1 0

one_shown : (memories : List Memory) (kind : VertexKind) (pins : List Signal) → length pins ≡ pin_count memories kind
    → length (shown_by kind pins) ≡ once (is_output kind)
one_shown memories Host pins h = refl
one_shown memories Input pins h = refl
one_shown memories Output pins h = h
one_shown memories (Constant b) pins h = refl
one_shown memories (Gate kind) pins h = refl
one_shown memories (Read memory port) pins h = refl
one_shown memories (WritePort memory port) pins h = refl

all_shown : (P : Signal → Type 0) (kind : VertexKind) (pins : List Signal) → AllByRecursion P pins → AllByRecursion P (shown_by kind pins)
all_shown P Host pins h = tt
all_shown P Input pins h = tt
all_shown P Output pins h = h
all_shown P (Constant b) pins h = tt
all_shown P (Gate kind) pins h = tt
all_shown P (Read memory port) pins h = tt
all_shown P (WritePort memory port) pins h = tt

module _ (g : Graph) (machine : IsMachine g) (keys : List RegisterKey) (are : AreRegisters g keys) (names : Names)
    (fit : AreCircuitNames g keys names) where
  abbrev pub outs : List Signal
  outs = flat_map (shown_signals g names keys) g.vertices

  counted : (xs : List Vertex) → ((v : ℕ) (x : Vertex) → slice_get xs v ≡ Some x → length x.pins ≡ pin_count g.memories x.kind)
      → sum_by (λ x. length (shown_signals g names keys x)) xs ≡ count_by (λ (x : Vertex). is_output x.kind) xs
  counted [] pins = refl
  counted (x ∷ xs) pins =
      sum_by-cons (λ x. length (shown_signals g names keys x)) x xs
      ∙ ap₂ (λ m n. m + n)
      (one_shown g.memories x.kind (pin_signals g names keys x) (length-map x.pins (pin_signal g names keys) ∙ pins 0 x refl))
      (counted xs (λ v y at. pins (suc v) y at))
      ∙ sym (sum_by-cons (λ (x : Vertex). once (is_output x.kind)) x xs)

  pub outs_count : length outs ≡ length (output_signals names.ports)
  outs_count = length-flat_map (shown_signals g names keys) g.vertices ∙ counted g.vertices machine.pins ∙ sym fit.outputs

  pub pins_are_data : (v : ℕ) (x : Vertex) → slice_get g.vertices v ≡ Some x
      → AllByRecursion (IsData (written_clock names)) (pin_signals g names keys x)
  pins_are_data v x at =
      all_of_map (IsData (written_clock names)) (pin_signal g names keys) x.pins
      (all_places (λ (f : Feed). IsData (written_clock names) (pin_signal g names keys f)) x.pins
      (λ i f pin. pin_is_data g machine keys are names fit v (pin_signal g names keys f)
      (pin_origin g machine keys are names fit v i x f at pin)))

  pub outs_are_data : AllByRecursion (IsData (written_clock names)) outs
  outs_are_data =
      all_in_chain (IsData (written_clock names)) (shown_signals g names keys) g.vertices
      (all_places (λ x. AllByRecursion (IsData (written_clock names)) (shown_signals g names keys x)) g.vertices
      (λ v x at. all_shown (IsData (written_clock names)) x.kind (pin_signals g names keys x) (pins_are_data v x at)))

  pub outs_apart : AllByRecursion (λ s. is_clock (written_clock names) s ≡ false) outs
  outs_apart =
      all_mapped (IsData (written_clock names)) (λ s. is_clock (written_clock names) s ≡ false) (λ s is. is.apart) outs outs_are_data

  module _ (net : Net) (ports : net.ports ≡ map port_of (written_ports 2 outs names.ports)) (clock : net.clock ≡ written_clock names) where
    pub data_outputs_are : data_outputs net ≡ outs
    data_outputs_are =
        ap (λ ps. flat_map (λ (p : Port). p.bits) (filter (λ (p : Port). is_output_port p.direction) ps)) ports
        ∙ same_port_bits is_output_port (written_ports 2 outs names.ports)
        ∙ output_signals_written 2 outs names.ports
        ∙ take_all (length (output_signals names.ports)) outs (let count = outs_count in omega (arith, count))

    pub data_ports_are : data_ports net ≡ ports_by names.clock names.ports
    data_ports_are =
        ap₂ (λ c ps. ports_by c ps) clock ports
        ∙ same_data_ports names.clock (written_clock names) names.ports (map port_of (written_ports 2 outs names.ports))
        (written_alike names fit.ports outs outs_apart (let count = outs_count in omega (arith, count)))
