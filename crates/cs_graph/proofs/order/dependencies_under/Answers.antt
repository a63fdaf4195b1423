-- Vertex by vertex.
use Rattle.std.proofs.Common.{subst}
use Rattle.cs_graph.specs.Order.{IsAdded}
use Rattle.cs_graph.proofs.OrderLemmas.{dependencies_go_on}
use Rattle.cs_graph.proofs.order.dependencies_under.Goals as goal

pub loop-v-preserved : goal.loop-v-preserved
loop-v-preserved c =
    let g = c.args.graph.now in
    let lags = c.args.lags.now in
    let new = c.add_vertex.new.dependencies in
    dependencies_go_on g lags c.loop-v.v c.loop-v.dependencies new c.loop-v.invariant
    (subst (λ v. IsAdded g lags v c.loop-v.dependencies new) c.new.ensures c.in_ok-add_vertex.ensures)
