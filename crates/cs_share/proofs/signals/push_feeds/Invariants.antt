use Rattle.std.proofs.Common.{◌≡◌, ◌++◌, drop, map}
use Rattle.cs_share.specs.Planned.{feed_signal}
use Rattle.cs_share.proofs.signals.push_feeds.Given as goal

abbrev pub invariant-loop-feed : goal.invariant-loop-feed
invariant-loop-feed l =
    l.pins ++ map (feed_signal l.signals) (drop l.feed-index l.feeds) ≡ l.fn.pins ++ map (feed_signal l.signals) l.feeds
