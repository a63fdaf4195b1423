-- The steps so far only extend, and those before this turn are taken.
use Rattle.cs_diff.specs.Steps.{IsExtended}
use Rattle.cs_diff.proofs.StepLemmas.{StepsBelow}
use Rattle.cs_diff.proofs.steps.step_pass.Given as goal

abbrev pub invariant-loop-turn : goal.invariant-loop-turn
invariant-loop-turn l = record {
  extended : IsExtended l.sys l.labels l.initial.reached l.initial.steps l.reached l.steps;
  below : StepsBelow l.sys l.back l.labels l.initial.reached l.reached l.turn l.stepped;
}
