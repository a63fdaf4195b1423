-- A machine has one emission under the same names.
use Rattle.std.proofs.Common.{◌≡◌, subst}
use Rattle.cs_circuit.specs.Documents.{IsCircuitDocument}
use Rattle.cs_circuit.proofs.Documents.{one_document}
use Rattle.cs_graph.specs.declared.graph.Graph.{Graph}
use Rattle.cs_json.specs.declared.document.Document.{Document}
use Rattle.cs_prefix.proofs.OneList.{one_keys}
use Rattle.cs_share.specs.declared.types.Names.{Names}
use Rattle.cs_share.specs.Emission.{IsEmission, shared_circuit}
use Rattle.cs_share.specs.Registers.{edge_contents, edge_drivers}

pub one_emission : (g : Graph) (names : Names) (a b : Document) → IsEmission g names a → IsEmission g names b → a ≡ b
one_emission g names a b first second =
    let same = one_keys (edge_drivers g) (edge_contents g) second.keys first.keys second.registers first.registers in
    one_document (shared_circuit g first.keys names) a b first.of_circuit
    (subst (λ keys. IsCircuitDocument (shared_circuit g keys names) b) same second.of_circuit)
