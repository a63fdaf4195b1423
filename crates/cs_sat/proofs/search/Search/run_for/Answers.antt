-- The weight rises, and stays below its bound.
use Rattle.std.proofs.Common.{subst, arith}
use Rattle.cs_sat.specs.Searches.{IsStepped}
use Rattle.cs_sat.proofs.Searches.{light}
use Rattle.cs_sat.proofs.search.Search.run_for.Goals as goal

pub loop-self-smaller : goal.loop-self-smaller
loop-self-smaller c =
    let goes = subst (IsStepped c.args.f.now c.loop-self.self c.step.new.self) c.in_default.is c.in_ok-end.ensures in
    let up = goes.rises in
    let below = light c.args.f.now c.step.new.self goes.kept in
    omega arith
