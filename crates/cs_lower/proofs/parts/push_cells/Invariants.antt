use Rattle.std.proofs.Common.{◌≡◌, ◌+◌, ◌≤◌, length}
use Rattle.std.specs.List.{AllByRecursion}
use Rattle.cs_lower.specs.Cells.{HasFewReads, cell_parts, placed_cells}
use Rattle.cs_lower.specs.Taps.{both, in_turn}
use Rattle.cs_lower.proofs.PlacedCells.{placed_from}
use Rattle.cs_lower.proofs.parts.push_cells.Given as goal

-- the cells that are left come behind those that are pushed
abbrev pub invariant-loop-cell : goal.invariant-loop-cell
invariant-loop-cell l =
    let cells = l.cell-iterator.a.rest.now in
    let shapes = l.cell-iterator.b.rest.now in
    (both l.parts (in_turn (cell_parts l.net) (length l.parts.pieces) (placed_from l.count cells shapes))
    ≡ both l.fn.parts (in_turn (cell_parts l.net) (length l.fn.parts.pieces) (placed_cells l.net)))
    × AllByRecursion HasFewReads shapes
    × (l.count + length shapes ≤ 65536)
