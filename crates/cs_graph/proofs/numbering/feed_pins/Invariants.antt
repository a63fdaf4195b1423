-- What is made of the pins so far, and of the rest from there on; the iterator holds no more than it has.
use Rattle.std.proofs.Common.{◌≡◌, length}
use Rattle.std.specs.Vec.Iter.{into_iter_items, into_iter_len}
use Rattle.cs_graph.proofs.NumberingLemmas.{PinsSoFar}
use Rattle.cs_graph.proofs.numbering.feed_pins.Given as goal

abbrev pub invariant-loop-source : goal.invariant-loop-source
invariant-loop-source l = record {
  so_far : PinsSoFar l.to l.initial.edges l.fn.sources.items l.pins l.edges (into_iter_items
      l.source-iterator);
  left : length (into_iter_items l.source-iterator) ≡ into_iter_len l.source-iterator;
}
