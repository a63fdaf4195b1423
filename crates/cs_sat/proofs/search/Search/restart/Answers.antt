-- The state stays, over a trail without decisions.
use Rattle.std.proofs.Common.{refl}
use Rattle.cs_sat.proofs.Searches.{restarted}
use Rattle.cs_sat.proofs.search.Search.restart.Goals as goal

pub returns : goal.returns
returns c =
    restarted c.args.f.now c.args.self.now _ c.requires c.cut.ensures.trail c.cut.ensures.size c.cut.ensures.cut refl refl
