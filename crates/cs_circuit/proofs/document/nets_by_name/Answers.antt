use Rattle.std.proofs.Common.{rules, subst, sym}
use Rattle.cs_json.specs.declared.document.NetDecl.{NetDecl}
use Rattle.cs_circuit.specs.Order.{IsInNameOrder}
use Rattle.cs_circuit.proofs.Orders.{name_order_from_sort_by}
use Rattle.cs_circuit.proofs.document.nets_by_name.Goals as goal

pub returns : goal.returns
returns c =
    subst (IsInNameOrder (λ (net : NetDecl). net.name) c.args.nets.items) (sym c.from_vec.ensures)
    (name_order_from_sort_by (λ (net : NetDecl). net.name) c.args.nets.items _ c.requires
    c.sort_unstable_by.ensures.permutation c.sort_unstable_by.ensures.sorted (λ a r q k. search rules))
