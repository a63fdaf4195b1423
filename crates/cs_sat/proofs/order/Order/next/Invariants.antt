-- The ranks become fewer.
use Rattle.std.specs.BinaryHeap.{heap_len}
use Rattle.cs_sat.proofs.order.Order.next.Given as goal

abbrev pub decreases-loop-rank : goal.decreases-loop-rank
decreases-loop-rank l = heap_len l.self.ranks
