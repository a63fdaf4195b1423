-- What is made of the vertices so far, and of the rest from there on; the iterator holds no more than it has.
use Rattle.std.proofs.Common.{◌≡◌, length}
use Rattle.std.specs.Vec.Iter.{into_iter_items, into_iter_len}
use Rattle.cs_graph.proofs.NumberingLemmas.{VerticesSoFar}
use Rattle.cs_graph.proofs.numbering.number.Given as goal

abbrev pub invariant-loop-vertex : goal.invariant-loop-vertex
invariant-loop-vertex l = record {
  so_far : VerticesSoFar l.fn.vertices.items l.numbered l.edges (into_iter_items l.vertex-iterator);
  left : length (into_iter_items l.vertex-iterator) ≡ into_iter_len l.vertex-iterator;
}
