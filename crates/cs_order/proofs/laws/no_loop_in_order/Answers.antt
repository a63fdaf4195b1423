-- Along a walk the places in the order fall.
use Rattle.cs_order.proofs.CallerLemmas.{order_no_loop}
use Rattle.cs_order.proofs.laws.no_loop_in_order.Goals as goal

pub returns : goal.returns
returns c = order_no_loop
