-- What is made of the edges so far, and of the rest from there on; the iterator holds no more than it has.
use Rattle.std.proofs.Common.{◌≡◌, length}
use Rattle.std.specs.Vec.Iter.{into_iter_items, into_iter_len}
use Rattle.cs_graph.proofs.ContentsLemmas.{EdgesSoFar}
use Rattle.cs_graph.proofs.contents.edges_with.Given as goal

abbrev pub invariant-loop-contents : goal.invariant-loop-contents
invariant-loop-contents l = record {
  so_far : EdgesSoFar l.edges l.fn.contents.of l.made (into_iter_items l.contents-iterator);
  left : length (into_iter_items l.contents-iterator) ≡ into_iter_len l.contents-iterator;
}
