-- No variable has a value.
use Rattle.cs_sat.proofs.Trails.{trail_empty}
use Rattle.cs_sat.proofs.trail.Trail.new.Goals as goal

pub returns-clause-trail : goal.returns-clause-trail
returns-clause-trail c = trail_empty _ c.new.ensures.items c.in_ok-table.ensures.none
