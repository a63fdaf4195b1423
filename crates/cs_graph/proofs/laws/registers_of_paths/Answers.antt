-- Edge by edge.
use Rattle.cs_graph.proofs.PathWeights.{path_registers}
use Rattle.cs_graph.proofs.laws.registers_of_paths.Goals as goal

pub returns : goal.returns
returns c = path_registers
