-- What is counted and what is left make the whole.
use Rattle.std.proofs.Common.{◌+◌}
use Rattle.cs_bank.proofs.Counted.{CountSoFar}
use Rattle.cs_bank.specs.Measures.{of_pin, of_vertex, of_wire}
use Rattle.cs_bank.specs.Wired.{feed_source}
use Rattle.cs_bank.proofs.measures.of_enables.Given as goal

abbrev pub invariant-loop-feed : goal.invariant-loop-feed
invariant-loop-feed l =
    CountSoFar (λ feed. of_pin l.measure (feed_source l.machine.edges feed) + (of_vertex l.measure + of_wire l.measure))
    l.enables l.feed-index l.total 0
