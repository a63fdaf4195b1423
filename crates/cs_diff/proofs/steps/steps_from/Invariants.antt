-- The steps so far only extend; each pass leaves fewer vertices that are not reached.
use Rattle.std.proofs.Common.{[]}
use Rattle.cs_diff.specs.Steps.{IsExtended, unreached}
use Rattle.cs_diff.proofs.steps.steps_from.Given as goal

abbrev pub invariant-loop-steps : goal.invariant-loop-steps
invariant-loop-steps l = IsExtended l.sys l.labels l.initial.reached [] l.reached l.steps

abbrev pub decreases-loop-steps : goal.decreases-loop-steps
decreases-loop-steps l = unreached l.reached
