-- Each step keeps the search; what was met stays met, the root too; less is left to be done.
use Rattle.cs_order.specs.Searches.{Searches, IsSeen, StaysSeen, left_of}
use Rattle.cs_order.proofs.search.Search.visit.Given as goal

abbrev pub invariant-loop-last : goal.invariant-loop-last
invariant-loop-last l = record {
  search : Searches l.graph l.self;
  seen : StaysSeen l.fn.self.states.items l.self.states.items;
  root : IsSeen l.self.states.items l.root;
}

abbrev pub decreases-loop-last : goal.decreases-loop-last
decreases-loop-last l = left_of l.self
