-- What follows propagation follows the step.
use Rattle.cs_sat.proofs.Literals.{if_ok}
use Rattle.cs_sat.specs.Searches.{IsStepped}
use Rattle.cs_sat.proofs.Searches.{stepped_after}
use Rattle.cs_sat.proofs.search.Search.step.Goals as goal

pub returns-in-Some : goal.returns-in-Some
returns-in-Some c =
    if_ok c.learn.result (IsStepped c.args.f.now c.propagate.new.self c.learn.new.self)
    (IsStepped c.args.f.now c.args.self.now c.learn.new.self)
    (λ end. stepped_after c.args.f.now c.args.self.now c.propagate.new.self c.learn.new.self end c.in_ok-number.ensures.grows)
    c.learn.ensures

pub returns-in-None : goal.returns-in-None
returns-in-None c =
    if_ok c.extend.result (IsStepped c.args.f.now c.propagate.new.self c.extend.new.self)
    (IsStepped c.args.f.now c.args.self.now c.extend.new.self)
    (λ end. stepped_after c.args.f.now c.args.self.now c.propagate.new.self c.extend.new.self end c.in_ok-number.ensures.grows)
    c.extend.ensures
