-- So many open pins so far.
use Rattle.std.proofs.Common.{◌≡◌, None, replicate}
use Rattle.cs_graph.proofs.source.OpenPins.new.Given as goal

abbrev pub invariant-loop : goal.invariant-loop
invariant-loop l = l.sources.items ≡ replicate l.counter None
