use Rattle.std.proofs.Common.{◌≡◌, take}
use Rattle.std.specs.Prelude.{flat_map}
use Rattle.cs_share.specs.Planned.{feeds_shown}
use Rattle.cs_share.proofs.signals.shown_signals.Given as goal

abbrev pub invariant-loop-v : goal.invariant-loop-v
invariant-loop-v l = l.shown ≡ flat_map (feeds_shown l.signals) (take l.v l.machine.vertices)
