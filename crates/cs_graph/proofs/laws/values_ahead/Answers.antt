use Rattle.cs_graph.proofs.Pasts.{ahead_same}
use Rattle.cs_graph.proofs.laws.values_ahead.Goals as goal

pub returns : goal.returns
returns c = λ mode lags clocks clocks' t v o row row' value value' words words' legal run run' h h' early.
    ahead_same c.args.machine.now c.keeps.ensures.well_formed mode lags legal clocks clocks' row row' value
    value' words words' run run' t v o h h' early
