-- Steps of later levels are taken off.
use Rattle.std.proofs.Common.{◌≡◌, length, vec_len}
use Rattle.cs_sat.specs.Trails.{IsTrail, IsOff}
use Rattle.cs_sat.proofs.trail.Trail.cut.Given as goal

abbrev pub invariant-loop-self : goal.invariant-loop-self
invariant-loop-self l = record {
  trail : IsTrail l.self;
  size : length l.self.table.items ≡ length l.initial.self.table.items;
  off : IsOff l.level l.initial.self.steps.items l.self.steps.items;
}

abbrev pub decreases-loop-self : goal.decreases-loop-self
decreases-loop-self l = vec_len l.self.steps
