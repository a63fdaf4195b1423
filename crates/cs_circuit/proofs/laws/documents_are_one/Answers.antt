use Rattle.cs_circuit.proofs.Documents.{one_document}
use Rattle.cs_circuit.proofs.laws.documents_are_one.Goals as goal

pub returns : goal.returns
returns c = one_document
