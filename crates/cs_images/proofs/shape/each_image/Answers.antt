-- Reading the texts of a memory.
use Rattle.std.proofs.Common.{◌+◌, map, drop, ap, ◌∙◌}
use Rattle.serde_json.specs.View.{view}
use Rattle.cs_json.specs.Walk.{each_item}
use Rattle.cs_json.proofs.Loops.{with_front}
use Rattle.cs_images.specs.Shape.{image}
use Rattle.cs_json.proofs.Loops.{one_more_item}
use Rattle.cs_images.proofs.shape.each_image.Goals as goal

pub loop-i-preserved : goal.loop-i-preserved
loop-i-preserved c =
    let left = map view (drop (c.loop-i.i + 1) c.args.items.now) in
    ap (λ front. with_front front (each_item image (c.loop-i.i + 1) left)) c.in_ok-push.ensures.ok
    ∙ one_more_item image c.loop-i.found c.in_ok-at_item.field-0 c.args.items.now c.loop-i.i
    c.index-items-i.result c.index-items-i.is c.loop-i-test.true
    (c.in_ok-at_item.ensures (image (view c.index-items-i.result)) c.image.ensures)
    ∙ c.loop-i.invariant
