-- What is counted and what is left make the whole.
use Rattle.cs_bank.proofs.Counted.{CountSoFar}
use Rattle.cs_bank.specs.Measures.{of_pin}
use Rattle.cs_bank.specs.Wired.{feed_source}
use Rattle.cs_bank.proofs.measures.of_feeds.Given as goal

abbrev pub invariant-loop-feed : goal.invariant-loop-feed
invariant-loop-feed l =
    CountSoFar (λ feed. of_pin l.measure (feed_source l.machine.edges feed)) l.feeds l.feed-index l.total 0
