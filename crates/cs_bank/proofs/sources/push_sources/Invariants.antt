-- The sources so far come after the pins that were there.
use Rattle.std.proofs.Common.{◌≡◌, ◌++◌, map, take}
use Rattle.cs_bank.specs.Wired.{feed_source}
use Rattle.cs_bank.proofs.sources.push_sources.Given as goal

abbrev pub invariant-loop-feed : goal.invariant-loop-feed
invariant-loop-feed l =
    l.pins.items ≡ l.initial.pins.items ++ map (feed_source l.machine.edges) (take l.feed-index l.feeds)
