-- The clause is learned once all marked places are gone through.
use Rattle.std.proofs.Common.{◌∙◌}
use Rattle.cs_sat.proofs.Learning.{learned_rup}
use Rattle.cs_sat.proofs.analyse.analyse.Goals as goal

pub collect-requires-clause-marking : goal.collect-requires-clause-marking
collect-requires-clause-marking c = (c.shorten.ensures c.index.result.now.level c.in_ok-at.ensures).marking

pub clear-requires : goal.clear-requires
clear-requires c = (c.shorten.ensures c.index.result.now.level c.in_ok-at.ensures).marking.listed

pub returns-clause-learned : goal.returns-clause-learned
returns-clause-learned c =
    learned_rup _ c.args.trail.now c.index.result.now.level c.in_ok-at.at c.shorten.new.marks c.in_ok-learned.learned
    (c.shorten.ensures c.index.result.now.level c.in_ok-at.ensures) c.in_ok-learned.ensures

pub returns-clause-clear : goal.returns-clause-clear
returns-clause-clear c = record {
  size = c.clear.ensures.size ∙ (c.shorten.ensures c.index.result.now.level c.in_ok-at.ensures).marking.size;
  none = c.clear.ensures.none;
}
