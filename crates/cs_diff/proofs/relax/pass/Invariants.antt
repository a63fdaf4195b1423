-- The labels only fell, are in their range, and keep what was passed unless one fell.
use Rattle.cs_diff.specs.Labels.{IsLowered, AreInRange}
use Rattle.cs_diff.proofs.PassLemmas.{HasPassed}
use Rattle.cs_diff.proofs.relax.pass.Given as goal

abbrev pub invariant-loop-turn : goal.invariant-loop-turn
invariant-loop-turn l = record {
  lowered : IsLowered l.reading l.sys.constraints l.initial.labels l.initial.parents l.labels
      l.parents;
  range : AreInRange l.sys.vertices l.labels;
  passed : HasPassed l.reading l.sys.constraints l.back l.sys.vertices l.initial.labels l.labels
      l.turn l.changed;
}
