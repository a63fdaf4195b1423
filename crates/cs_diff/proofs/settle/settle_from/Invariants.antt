-- The labels only fell and are in their range; each pass leaves them less to fall.
use Rattle.cs_diff.specs.Labels.{IsLowered, AreInRange, slack_of}
use Rattle.cs_diff.proofs.settle.settle_from.Given as goal

abbrev pub invariant-loop-vertex : goal.invariant-loop-vertex
invariant-loop-vertex l = record {
  lowered : IsLowered l.reading l.sys.constraints l.initial.labels l.initial.parents l.labels
      l.parents;
  range : AreInRange l.sys.vertices l.labels;
}

abbrev pub decreases-loop-vertex : goal.decreases-loop-vertex
decreases-loop-vertex l = slack_of l.sys.vertices l.labels
