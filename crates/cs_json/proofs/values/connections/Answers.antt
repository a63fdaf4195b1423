-- What the pins of a cell are connected to.
use Rattle.std.proofs.Common.{ap, ◌∙◌}
use Rattle.serde_json.specs.Data.{object}
use Rattle.serde_json.specs.View.{members_view}
use Rattle.cs_json.specs.Printed.{wire_member, wire_of, members_from, signals_data}
use Rattle.cs_json.proofs.PrintingLemmas.{one_more_put, all_put, map_twice}
use Rattle.cs_json.proofs.values.connections.Goals as goal

pub loop-pin-preserved : goal.loop-pin-preserved
loop-pin-preserved c =
    one_more_put (λ p. wire_member (wire_of p))
    c.args.pins.now c.loop-pin.pin-index c.pin-item.result
    (members_view c.loop-pin.map.entries) (members_view c.put_signals.new.members.entries) c.as_str.result.now
    (signals_data c.as_slice.result.now)
    c.requires c.loop-pin-test.true c.pin-item.is c.as_str.ensures
    (ap signals_data c.as_slice.ensures)
    c.loop-pin.invariant c.in_ok-put_signals.ensures

pub returns : goal.returns
returns c =
    all_put (λ p. wire_member (wire_of p))
    c.args.pins.now c.loop-pin.pin-index c.loop-pin.map c.loop-pin-test.false c.loop-pin.invariant
    ∙ ap (λ ms. object (members_from ms)) (map_twice wire_member wire_of c.args.pins.now)
