-- The gates so far come after the vertices that were there.
use Rattle.std.proofs.Common.{◌≡◌, ◌++◌, map, take}
use Rattle.cs_bank.specs.Guards.{guarded_enables}
use Rattle.cs_bank.specs.Wired.{feed_source}
use Rattle.cs_bank.proofs.guards.push_enables.Given as goal

abbrev pub invariant-loop-feed : goal.invariant-loop-feed
invariant-loop-feed l =
    l.vertices.items
    ≡ l.initial.vertices.items
    ++ guarded_enables l.last (map (feed_source l.machine.edges) (take l.feed-index l.enables))
