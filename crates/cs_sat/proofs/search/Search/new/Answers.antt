-- Nothing is set, and nothing learned.
use Rattle.cs_sat.proofs.Searches.{search_begins}
use Rattle.cs_sat.proofs.search.Search.new.Goals as goal

pub returns : goal.returns
returns c =
    search_begins c.args.f.now _ c.requires c.in_ok-trail.ensures.trail c.in_ok-trail.ensures.size c.in_ok-trail.ensures.empty
    c.in_ok-store.ensures c.in_ok-marks.ensures.size c.in_ok-marks.ensures.none
