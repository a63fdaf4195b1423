-- One step more is taken off.
use Rattle.std.proofs.Common.{arith}
use Rattle.cs_sat.proofs.Trails.{off_more}
use Rattle.cs_sat.proofs.trail.Trail.cut.Goals as goal

pub loop-self-preserved : goal.loop-self-preserved
loop-self-preserved c = record {
  trail = c.pop.ensures.trail;
  size = omega arith;
  off = off_more c.args.level _ c.args.self.now.steps.items c.loop-self.self c.pop.new.self c.loop-self.invariant.trail
      c.level.ensures c.loop-self-test.true c.pop.ensures.popped c.loop-self.invariant.off;
}
