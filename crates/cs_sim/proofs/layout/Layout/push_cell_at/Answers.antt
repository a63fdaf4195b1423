use Rattle.std.proofs.Common.{◌≡◌, ◌<◌, Some, length, refl, sym, ap, ◌∙◌, arith}
use Rattle.std.specs.Prelude.{slice_get}
use Rattle.std.proofs.lemmas.Option.{slice_get_past, slice_get_read}
use Rattle.cs_sim.specs.Layout.{with_cell}
use Rattle.cs_sim.proofs.Counted.{folded_more, folded_past, on_ok}
use Rattle.cs_sim.proofs.layout.Layout.push_cell_at.Goals as goal

pub returns-then-place-shapes : goal.returns-then-place-shapes
returns-then-place-shapes c =
    let net = c.args.net.now in
    let i = c.args.place in
    let cells = c.cells-cells.result.now in
    let shapes = c.shapes-shapes.result.now in
    let in_cells : i < length cells = omega (arith, ap length c.cells-cells.ensures) in
    let cell : slice_get net.cells i ≡ Some c.index-cells-place.result
    = sym (ap (λ xs. slice_get xs i) c.cells-cells.ensures)
    ∙ slice_get_read cells (length cells) i c.index-cells-place.result refl in_cells c.index-cells-place.is in
    let shape : slice_get net.shapes i ≡ Some c.index-shapes-place.result
    = sym (ap (λ xs. slice_get xs i) c.shapes-shapes.ensures)
    ∙ slice_get_read shapes (length shapes) i c.index-shapes-place.result refl c.if-place-shapes.true c.index-shapes-place.is in
    on_ok (folded_more (with_cell c.args.wiring.now.driven net.starts) net.cells net.shapes i c.index-cells-place.result c.index-shapes-place.result
    c.args.self.now c.push_cell.new.self cell shape)
    c.push_cell.result c.push_cell.ensures

pub returns-else-place-shapes : goal.returns-else-place-shapes
returns-else-place-shapes c =
    let net = c.args.net.now in
    let i = c.args.place in
    folded_past (with_cell c.args.wiring.now.driven net.starts) net.cells net.shapes i c.args.self.now
    (sym (ap (λ xs. slice_get xs i) c.shapes-shapes.ensures) ∙ slice_get_past c.shapes-shapes.result.now i c.if-place-shapes.false)
