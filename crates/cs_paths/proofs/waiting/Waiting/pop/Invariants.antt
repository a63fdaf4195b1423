-- The same wait.
use Rattle.std.proofs.Common.{◌-◌, length}
use Rattle.cs_paths.proofs.WaitingLemmas.{GoesOn}
use Rattle.cs_paths.proofs.waiting.Waiting.pop.Given as goal

abbrev pub invariant-loop-place : goal.invariant-loop-place
invariant-loop-place l = GoesOn l.initial.self l.self

abbrev pub decreases-loop-place : goal.decreases-loop-place
decreases-loop-place l = length l.self.later - l.self.level
