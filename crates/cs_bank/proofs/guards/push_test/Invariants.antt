-- The gates of the address bits so far.
use Rattle.cs_bank.proofs.TestLemmas.{TestSoFar}
use Rattle.cs_bank.proofs.guards.push_test.Given as goal

abbrev pub invariant-loop-feed : goal.invariant-loop-feed
invariant-loop-feed l =
    TestSoFar l.machine.edges l.address l.size l.initial.vertices.items l.feed-index l.begun l.rest l.vertices.items
