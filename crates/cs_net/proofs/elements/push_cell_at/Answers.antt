use Rattle.std.proofs.Common.{length, refl}
use Rattle.std.proofs.lemmas.Option.{slice_get_past, slice_get_read}
use Rattle.cs_net.proofs.ElementLists.{next_cell, no_shape, on_ok}
use Rattle.cs_net.proofs.elements.push_cell_at.Goals as goal

pub returns-then-place-shapes : goal.returns-then-place-shapes
returns-then-place-shapes c =
    let cells = c.args.cells.now in
    let shapes = c.args.shapes.now in
    let i = c.args.place in
    on_ok (next_cell i cells shapes c.index-cells-place.result c.index-shapes-place.result
    c.args.elements.now c.push_cell.new.elements
    (slice_get_read cells (length cells) i c.index-cells-place.result refl c.requires c.index-cells-place.is)
    (slice_get_read shapes
    (length shapes) i c.index-shapes-place.result refl c.if-place-shapes.true c.index-shapes-place.is))
    c.push_cell.result c.push_cell.ensures

pub returns-else-place-shapes : goal.returns-else-place-shapes
returns-else-place-shapes c =
    no_shape c.args.place c.args.cells.now c.args.shapes.now c.args.elements.now
    (slice_get_past c.args.shapes.now c.args.place c.if-place-shapes.false)
