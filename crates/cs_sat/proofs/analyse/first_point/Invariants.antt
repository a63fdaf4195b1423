-- The places after this one are resolved.
use Rattle.std.proofs.Common.{◌<◌, ◌++◌, length}
use Rattle.cs_sat.specs.Analyses.{IsResolved}
use Rattle.cs_sat.proofs.analyse.first_point.Given as goal

abbrev pub invariant-loop-low : goal.invariant-loop-low
invariant-loop-low l = record {
  resolved : IsResolved (l.base ++ l.lines) l.trail l.level l.at l.marks l.low;
  within : l.at < length l.trail.steps.items;
}

abbrev pub decreases-loop-low : goal.decreases-loop-low
decreases-loop-low l = l.at
