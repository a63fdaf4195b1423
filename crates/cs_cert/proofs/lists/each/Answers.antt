-- Reading a list.
use Rattle.std.proofs.Common.{◌+◌, map, drop, ap, ◌∙◌}
use Rattle.serde_json.specs.View.{view}
use Rattle.cs_json.specs.Walk.{each_item}
use Rattle.cs_json.proofs.Loops.{with_front}
use Rattle.cs_json.proofs.Loops.{one_more_item}
use Rattle.cs_cert.proofs.lists.each.Goals as goal

pub loop-i-preserved : goal.loop-i-preserved
loop-i-preserved g c =
    let read_from = g.T.Readable.read_from in
    let left = map view (drop (c.loop-i.i + 1) c.args.items.now) in
    ap (λ front. with_front front (each_item read_from (c.loop-i.i + 1) left)) c.in_ok-push.ensures.ok
    ∙ one_more_item read_from c.loop-i.found c.in_ok-at_item.field-0 c.args.items.now c.loop-i.i
    c.index-items-i.result c.index-items-i.is c.loop-i-test.true
    (c.in_ok-at_item.ensures (read_from (view c.index-items-i.result)) c.read.ensures)
    ∙ c.loop-i.invariant
