use Rattle.std.proofs.Common.{arith, subst, sym}
use Rattle.cs_json.specs.declared.document.CellDecl.{CellDecl}
use Rattle.cs_circuit.specs.Order.{AreDistinct}
use Rattle.cs_circuit.proofs.Names.{distinct_cells}
use Rattle.cs_circuit.proofs.document.sorted_cells.Goals as goal

pub cells_by_name-requires : goal.cells_by_name-requires
cells_by_name-requires c =
    subst (AreDistinct (λ (cell : CellDecl). cell.name)) (sym c.in_ok-cells.ensures.cells)
    (distinct_cells c.args.circuit.now c.requires.numbers c.in_ok-cells.ensures.numbers c.in_ok-cells.ensures.count
    (omega arith))
