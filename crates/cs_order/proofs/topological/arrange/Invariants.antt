-- The search holds and its path is empty; the roots so far are met.
use Rattle.std.proofs.Common.{◌≡◌, ◌<◌, ℕ, []}
use Rattle.cs_order.specs.Searches.{Searches, IsSeen}
use Rattle.cs_order.proofs.topological.arrange.Given as goal

abbrev pub invariant-loop-root : goal.invariant-loop-root
invariant-loop-root l = record {
  search : Searches l.graph l.search;
  rest : l.search.path.items ≡ [];
  met : (v : ℕ) → v < l.root → IsSeen l.search.states.items v;
}
