-- The directions of the pins of a cell.
use Rattle.serde_json.specs.Data.{string}
use Rattle.serde_json.specs.View.{members_view}
use Rattle.cs_json.specs.Printed.{side_member}
use Rattle.cs_json.proofs.PrintingLemmas.{one_more_put, all_put}
use Rattle.cs_json.proofs.values.sides.Goals as goal

pub loop-pin-preserved : goal.loop-pin-preserved
loop-pin-preserved c =
    one_more_put side_member c.args.pins.now c.loop-pin.pin-index c.pin-item.result
    (members_view c.loop-pin.map.entries) (members_view c.put_text.new.members.entries) c.as_str.result.now
    (string c.side.result.now)
    c.requires c.loop-pin-test.true c.pin-item.is c.as_str.ensures c.side.ensures
    c.loop-pin.invariant c.in_ok-put_text.ensures

pub returns : goal.returns
returns c =
    all_put side_member c.args.pins.now c.loop-pin.pin-index c.loop-pin.map
    c.loop-pin-test.false c.loop-pin.invariant
