-- The vertices so far depend on those that they read without a register.
use Rattle.cs_graph.specs.Order.{AreDependencies}
use Rattle.cs_graph.proofs.order.dependencies_under.Given as goal

abbrev pub invariant-loop-v : goal.invariant-loop-v
invariant-loop-v l = AreDependencies l.graph l.lags l.v l.dependencies
