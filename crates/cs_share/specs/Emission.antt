-- The document that is written for a machine.
use Rattle.std.specs.Prelude.{List, ◌&&◌, is_none, if◌then◌else◌}
use Rattle.cs_json.specs.declared.document.Document.{Document}
use Rattle.cs_circuit.specs.declared.circuit.Circuit.{Circuit}
use Rattle.cs_circuit.specs.Documents.{IsCircuitDocument}
use Rattle.cs_graph.specs.declared.graph.Graph.{Graph}
use Rattle.cs_share.specs.declared.types.Names.{Names}
use Rattle.cs_share.specs.Ports.{with_clock}
use Rattle.cs_prefix.specs.Prefixes.{RegisterKey}
use Rattle.cs_share.specs.Registers.{AreRegisters}
use Rattle.cs_share.specs.Shared.{circuit_with, has_some}

-- the names with a clock where there is a register; a clock that they have stays
abbrev pub clocked_names : List RegisterKey → Names → Names
clocked_names keys names = if is_none names.clock && has_some keys then with_clock names else names

-- the circuit of a machine, with these registers
abbrev pub shared_circuit : Graph → List RegisterKey → Names → Circuit
shared_circuit g keys names = circuit_with g keys (clocked_names keys names)

-- the emission of a machine: the document of its circuit
pub record IsEmission (g : Graph) (names : Names) (doc : Document) : Type 0 where
  pub keys : List RegisterKey
  pub registers : AreRegisters g keys
  pub of_circuit : IsCircuitDocument (shared_circuit g keys names) doc
