-- Each period is at most the other.
use Rattle.cs_graph.proofs.PathWeights.{one_period}
use Rattle.cs_graph.proofs.laws.one_period.Goals as goal

pub returns : goal.returns
returns c = one_period
