-- So many parents lead to `at`.
use Rattle.std.proofs.Common.{◌≡◌, Some}
use Rattle.cs_diff.specs.Labels.{ancestor}
use Rattle.cs_diff.proofs.climb.far_ancestor.Given as goal

abbrev pub invariant-loop-step : goal.invariant-loop-step
invariant-loop-step l = ancestor l.reading l.sys.constraints l.parents l._step l.vertex ≡ Some l.at
