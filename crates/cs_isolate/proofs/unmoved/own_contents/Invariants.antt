-- The contents of the edges so far.
use Rattle.std.proofs.Common.{◌≡◌, map, take}
use Rattle.cs_graph.specs.declared.edge.Edge.{Edge}
use Rattle.cs_isolate.proofs.unmoved.own_contents.Given as goal

abbrev pub invariant-loop-e : goal.invariant-loop-e
invariant-loop-e l = l.lists ≡ map (λ (d : Edge). d.contents) (take l.e l.machine.edges)
