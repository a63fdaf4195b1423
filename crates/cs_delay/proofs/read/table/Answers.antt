-- What is written is in order, and a walk's answer is that of the reader.
use Rattle.serde_json.specs.View.{view}
use Rattle.cs_delay.proofs.OrderLemmas.{written_ordered}
use Rattle.cs_delay.proofs.read.table.Goals as goal

pub bounded-requires-clause-types : goal.bounded-requires-clause-types
bounded-requires-clause-types c =
    (written_ordered (view c.args.value.now) c.in-Ok.table c.requires c.in-Ok.ensures).1

pub bounded-requires-clause-pins : goal.bounded-requires-clause-pins
bounded-requires-clause-pins c =
    (written_ordered (view c.args.value.now) c.in-Ok.table c.requires c.in-Ok.ensures).0
