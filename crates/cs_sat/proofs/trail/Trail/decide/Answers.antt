-- The decision is put behind the others.
use Rattle.std.proofs.Common.{arith}
use Rattle.cs_sat.proofs.Trails.{maybe_pushed, maybe_sized}
use Rattle.std.proofs.lemmas.Option.{slice_get_within}
use Rattle.cs_sat.proofs.trail.Trail.decide.Goals as goal

pub returns-clause-trail : goal.returns-clause-trail
returns-clause-trail c =
    maybe_pushed c.args.self.now c.push.new.self _ c.push.result c.requires.trail c.requires.within c.requires.open
    c.push.ensures.steps c.push.ensures.table c.push.ensures.err (λ _. omega arith) (omega arith)
    (λ i t found.
    let within = slice_get_within c.args.self.now.steps.items i t found in
    let low = c.requires.trail.levels i t found in
    omega arith)

pub returns-clause-size : goal.returns-clause-size
returns-clause-size c =
    maybe_sized c.args.self.now c.push.new.self c.args.lit.var _ c.push.result c.push.ensures.table c.push.ensures.err
