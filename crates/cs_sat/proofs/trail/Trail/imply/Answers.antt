-- The literal is put behind the others.
use Rattle.std.proofs.Common.{arith}
use Rattle.cs_sat.proofs.Trails.{maybe_pushed, maybe_sized, last_low}
use Rattle.cs_sat.proofs.trail.Trail.imply.Goals as goal

pub returns-clause-trail : goal.returns-clause-trail
returns-clause-trail c =
    let low = last_low c.args.self.now c.level-level.result c.requires.trail c.level-level.ensures in
    maybe_pushed c.args.self.now c.push.new.self _ c.push.result c.requires.trail c.requires.within c.requires.open
    c.push.ensures.steps c.push.ensures.table c.push.ensures.err (λ reason. cc) (omega arith) c.level-level.ensures.above

pub returns-clause-size : goal.returns-clause-size
returns-clause-size c =
    maybe_sized c.args.self.now c.push.new.self c.args.lit.var _ c.push.result c.push.ensures.table c.push.ensures.err
