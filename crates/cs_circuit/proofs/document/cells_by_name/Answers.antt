use Rattle.std.proofs.Common.{rules, subst, sym}
use Rattle.cs_json.specs.declared.document.CellDecl.{CellDecl}
use Rattle.cs_circuit.specs.Order.{IsInNameOrder}
use Rattle.cs_circuit.proofs.Orders.{name_order_from_sort_by}
use Rattle.cs_circuit.proofs.document.cells_by_name.Goals as goal

pub returns : goal.returns
returns c =
    subst (IsInNameOrder (λ (cell : CellDecl). cell.name) c.args.cells.items) (sym c.from_vec.ensures)
    (name_order_from_sort_by (λ (cell : CellDecl). cell.name) c.args.cells.items _ c.requires
    c.sort_unstable_by.ensures.permutation c.sort_unstable_by.ensures.sorted (λ a r q k. search rules))
