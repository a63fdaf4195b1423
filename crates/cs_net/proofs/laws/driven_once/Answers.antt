use Rattle.cs_net.proofs.DrivenOnce.{driven_once}
use Rattle.cs_net.proofs.laws.driven_once.Goals as goal

pub returns : goal.returns
returns c = driven_once c.args.net.now c.keeps.ensures
