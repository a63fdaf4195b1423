use Rattle.cs_circuit.proofs.ReadBacks.{read_back}
use Rattle.cs_circuit.proofs.laws.circuits_are_read_back.Goals as goal

pub returns : goal.returns
returns c = read_back
