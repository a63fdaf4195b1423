-- The trail is heavier by the decision.
use Rattle.std.proofs.Common.{refl}
use Rattle.cs_sat.proofs.Literals.{on_ok}
use Rattle.cs_sat.proofs.Searches.{decided_goes_on}
use Rattle.cs_sat.proofs.search.Search.decide.Goals as goal

pub returns : goal.returns
returns c =
    on_ok c.decide.result _ _
    (λ steps. decided_goes_on c.args.f.now c.args.self.now _ _ c.requires.search c.decide.ensures.trail c.decide.ensures.size steps
    refl refl)
    c.decide.ensures.ok
