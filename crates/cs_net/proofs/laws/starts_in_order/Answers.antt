use Rattle.cs_net.proofs.StartOrder.{starts_in_order}
use Rattle.cs_net.proofs.laws.starts_in_order.Goals as goal

pub returns : goal.returns
returns c = starts_in_order c.args.net.now c.keeps.ensures
