use Rattle.cs_lower.proofs.ReachLemmas.{constant_signal, is_constant}
use Rattle.cs_lower.proofs.trails.Trails.signal_reach.Goals as goal

pub returns-in-Zero : goal.returns-in-Zero
returns-in-Zero c =
    constant_signal c.args.self.now c.args.signal c.at_once.result c.signal_end.result
    (is_constant c.args.signal c.in-Zero.is) c.signal_end.ensures c.at_once.ensures
