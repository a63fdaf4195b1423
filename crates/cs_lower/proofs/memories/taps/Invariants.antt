use Rattle.std.proofs.Common.{◌≡◌, ◌++◌, drop, map}
use Rattle.cs_lower.specs.declared.taps.Tap.TheVariants.{Signal as of_signal}
use Rattle.cs_lower.proofs.memories.taps.Given as goal

abbrev pub invariant-loop-signal : goal.invariant-loop-signal
invariant-loop-signal l = l.taps ++ map of_signal (drop l.signal-index l.signals) ≡ map of_signal l.signals
