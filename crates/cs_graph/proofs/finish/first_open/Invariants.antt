-- The vertices so far have no open pin.
use Rattle.cs_graph.proofs.OpenLemmas.{AreFedBelow}
use Rattle.cs_graph.proofs.finish.first_open.Given as goal

abbrev pub invariant-loop-v : goal.invariant-loop-v
invariant-loop-v l = AreFedBelow l.vertices l.v
