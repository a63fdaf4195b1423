use Rattle.cs_graph.proofs.Shifted.{right_justifies, right_answers}
use Rattle.cs_graph.proofs.LagLemmas.{reach_of}
use Rattle.cs_graph.proofs.laws.right_contents.Goals as goal

pub returns-clause-justify : goal.returns-clause-justify
returns-clause-justify c = λ mode lags past k legal model right. let reach = reach_of lags in right_justifies
    c.args.machine.now c.keeps.ensures.well_formed mode lags legal reach.0 reach.1 past model k right

pub returns-clause-answer : goal.returns-clause-answer
returns-clause-answer c = λ mode lags past k rows outputs legal model right r. let reach = reach_of lags in
    right_answers c.args.machine.now c.keeps.ensures.well_formed mode lags legal reach.0 reach.1 past model k
    right rows outputs r
