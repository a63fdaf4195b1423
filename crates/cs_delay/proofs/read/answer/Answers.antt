-- What JSON says has the members of each object in order.
use Rattle.std.proofs.Common.{option_map, sym, ap, ◌∙◌}
use Rattle.serde_json.specs.View.{view}
use Rattle.cs_delay.proofs.OrderLemmas.{json_ordered}
use Rattle.cs_delay.proofs.read.answer.Goals as goal

pub table-requires : goal.table-requires
table-requires c =
    json_ordered c.args.bytes.now (view c.in-Some.value)
    (sym c.in_ok-value.ensures ∙ ap (option_map view) c.in-Some.is)
