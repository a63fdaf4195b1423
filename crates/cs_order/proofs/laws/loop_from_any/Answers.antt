-- A loop cut in two, and put together the other way round.
use Rattle.cs_order.proofs.CallerLemmas.{loop_turned}
use Rattle.cs_order.proofs.laws.loop_from_any.Goals as goal

pub returns : goal.returns
returns c = loop_turned
