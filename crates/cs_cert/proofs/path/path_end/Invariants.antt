use Rattle.std.proofs.Common.{◌≡◌, ℕ, ◌+◌, ◌*◌, ◌≤◌, ◌^◌, ◌↔◌, drop}
use Rattle.cs_graph.specs.Period.{IsPath, edges_delay, path_weight}
use Rattle.cs_cert.proofs.path.path_end.Given as goal

abbrev pub invariant-loop-e : goal.invariant-loop-e
invariant-loop-e l = record {
  leads : (v : ℕ) → IsPath l.machine l.fn.from l.edges v ↔ IsPath l.machine l.end.vertex (drop l.e-index l.edges) v;
  weight : path_weight l.machine l.edges ≡ l.end.weight + path_weight l.machine (drop l.e-index l.edges);
  delay : edges_delay l.machine l.delays l.edges ≡ l.end.delay + edges_delay l.machine l.delays (drop l.e-index l.edges);
  few : l.end.weight + l.end.delay ≤ l.e-index * 2 ^ 33;
}
