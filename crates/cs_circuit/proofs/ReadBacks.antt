-- The document of a circuit is read back: it is readable and has a netlist, which is the circuit's.
use Rattle.cs_json.specs.declared.document.Document.{Document}
use Rattle.cs_net.specs.Build.{net_of}
use Rattle.cs_circuit.specs.declared.circuit.Circuit.{Circuit}
use Rattle.cs_circuit.specs.Documents.{IsCircuitDocument, circuit_module}
use Rattle.cs_circuit.specs.ReadBack.{IsReadBack}
use Rattle.cs_circuit.specs.WellFormed.{IsCircuit}
use Rattle.cs_circuit.proofs.Documents.{fine_document}
use Rattle.cs_circuit.proofs.NetOfCircuit.{net_of_circuit, net_of_top}

pub read_back : (k : Circuit) (doc : Document) → IsCircuit k → IsCircuitDocument k doc → IsReadBack k doc
read_back k doc is made =
    let fine = fine_document k is doc made in
    record {
      readable = fine.readable;
      net = net_of (circuit_module k made.cells made.nets);
      of_document = net_of_top k is made.cells made.nets doc made.of_cells fine.clock fine.is_top fine.early fine.not_reserved;
      of_circuit = net_of_circuit k is made.cells made.nets made.of_cells made.of_nets fine.clock;
    }
