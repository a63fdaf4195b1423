-- The new vertex depends on those that the pins so far read without a register.
use Rattle.std.proofs.Common.{◌≡◌, ◌++◌, [], ◌∷◌, ℕ, List}
use Rattle.cs_graph.proofs.OrderLemmas.{AreDriversSoFar}
use Rattle.cs_graph.proofs.order.add_vertex.Given as goal

abbrev pub invariant-loop-pin : goal.invariant-loop-pin
invariant-loop-pin l = (us : List ℕ) × (l.dependencies ≡ l.fn.dependencies ++ us ∷ [])
    × AreDriversSoFar l.graph l.lags l.v l.pin us
