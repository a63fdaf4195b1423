-- The registers of the edges so far; an edge has fewer than 2^32.
use Rattle.std.proofs.Common.{◌≡◌, ◌*◌, ◌≤◌, take}
use Rattle.std.specs.List.{sum_by}
use Rattle.cs_graph.specs.declared.edge.Edge.{Edge}
use Rattle.cs_slow.proofs.slowing.register_count.Given as goal

abbrev pub invariant-loop-e : goal.invariant-loop-e
invariant-loop-e l = record {
  counted : l.count ≡ sum_by (λ (d : Edge). d.weight) (take l.e l.machine.edges);
  few : l.count ≤ l.e * 4294967295;
}
