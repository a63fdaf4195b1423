use Rattle.std.proofs.Common.{◌≡◌, ◌⊎◌, inl, inr, length}
use Rattle.cs_lower.specs.Cells.{cell_parts}
use Rattle.cs_lower.proofs.PlacedCells.{placed_from}
use Rattle.cs_lower.proofs.PushedPorts.{all_pushed, none_placed}
use Rattle.cs_lower.proofs.parts.push_cells.Goals as goal

pub returns : goal.returns
returns c =
    let cells = c.loop-cell.cell-iterator.a.rest.now in
    let shapes = c.loop-cell.cell-iterator.b.rest.now in
    let ended : (length cells ≡ 0) ⊎ (length shapes ≡ 0) = elim c.in-None.ensures.steps [
      | inl e ↦ inl e.1.0
      | inr e ↦ inr e.1.0
    ] in
    let left = placed_from c.loop-cell.count cells shapes in
    all_pushed (cell_parts c.args.net.now) left c.loop-cell.parts _
    (none_placed c.loop-cell.count cells shapes ended) c.loop-cell.invariant.0
