-- The document of a machine is read back: its netlist answers as the machine does.
use Rattle.std.proofs.Common.{◌≡◌, ◌∙◌, sym, ap, ap₂}
use Rattle.cs_circuit.proofs.ReadBacks.{read_back}
use Rattle.cs_graph.specs.declared.graph.Graph.{Graph}
use Rattle.cs_graph.specs.Invariant.{IsMachine}
use Rattle.cs_json.specs.declared.document.Document.{Document}
use Rattle.cs_net.specs.Isolates.{data_ports}
use Rattle.cs_net.specs.Netlist.{Net}
use Rattle.cs_share.specs.declared.types.Names.{Names}
use Rattle.cs_share.specs.Emission.{IsEmission, shared_circuit}
use Rattle.cs_share.specs.Names.{AreNamesFor}
use Rattle.cs_share.specs.ReadBack.{IsReadBack}
use Rattle.cs_share.proofs.CircuitDataPorts.{ports_by}
use Rattle.cs_share.proofs.CircuitWhole.{has_data_of, shared_is_circuit}
use Rattle.cs_share.proofs.PeriodLaw.{written_period}
use Rattle.cs_share.proofs.RunTraces.{shared_runs}

-- netlists with these names have the same data ports
same_ports : (names : Names) (net read : Net) → net.ports ≡ names.ports → net.clock ≡ names.clock → read.ports ≡ names.ports
    → read.clock ≡ names.clock → data_ports net ≡ data_ports read
same_ports names net read ports clock ports' clock' =
    ap₂ ports_by (clock ∙ sym clock') (ports ∙ sym ports')

pub emission_is_read_back : (g : Graph) → IsMachine g → (names : Names) → AreNamesFor g names → (doc : Document)
    → IsEmission g names doc → IsReadBack g names doc
emission_is_read_back g machine names fit doc e =
    let back = read_back (shared_circuit g e.keys names) doc (shared_is_circuit g e.keys names machine e.registers fit) e.of_circuit in
    let own = back.of_circuit in
    let alike = has_data_of g e.keys names fit machine e.registers back.net own.ports own.clock in
    record {
      readable = back.readable;
      net = back.net;
      of_document = back.of_document;
      order = own.order;
      ports = λ read ports clock.
          alike.ports
          ∙ same_ports names fit.net read (sym (ap (λ (n : Names). n.ports) fit.of_net)) (sym (ap (λ (n : Names). n.clock) fit.of_net)) ports clock;
      answers = λ rows outputs. shared_runs g machine names fit e.keys e.registers back.net own rows outputs;
      period = λ table delays assigned c.
          written_period g machine names fit doc e back.net back.of_document table delays assigned c;
    }
