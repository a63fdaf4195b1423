-- One place more is looked at.
use Rattle.cs_sat.proofs.shorten.shorten.Goals as goal

pub loop-index-preserved : goal.loop-index-preserved
loop-index-preserved c level is = c.shorten_at.ensures level (c.loop-index.invariant level is)
