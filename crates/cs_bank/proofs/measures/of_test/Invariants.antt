-- What is counted and what is left make the whole.
use Rattle.cs_bank.proofs.TestCounts.{TestCount}
use Rattle.cs_bank.proofs.measures.of_test.Given as goal

abbrev pub invariant-loop-feed : goal.invariant-loop-feed
invariant-loop-feed l = TestCount l.measure l.machine.edges l.address l.size l.feed-index l.begun l.rest l.total
