use Rattle.std.proofs.Common.{◌≡◌, ◌∙◌, inr, refl, subst, sym}
use Rattle.cs_json.specs.Readable.{AreInOrder}
use Rattle.cs_order.specs.Arrangements.{IfOrder}
use Rattle.cs_order.specs.Graphs.{IsOrder}
use Rattle.cs_net.specs.Build.{net_of}
use Rattle.cs_net.specs.Elements.{elements_of, graph_of}
use Rattle.cs_net.specs.Invariant.{HasBitOrder}
use Rattle.cs_net.specs.Netlist.{Net}
use Rattle.cs_net.specs.declared.netlist.Cell.{Cell}
use Rattle.cs_net.proofs.CellOrder.{cells_in_order}
use Rattle.cs_net.proofs.DraftLemmas.{drafted, drafted_elements}
use Rattle.cs_net.proofs.acceptance.arrange_cells.Goals as goal

pub returns-in-Order-clause-elements : goal.returns-in-Order-clause-elements
returns-in-Order-clause-elements c =
    let m = c.args.top.now in
    let made = drafted_elements m c.args.draft.now c.in_ok-elements.elements c.as_slice.result.now c.as_slice-cells.result.now c.as_slice-shapes.result.now
    c.requires.draft c.as_slice.ensures c.as_slice-cells.ensures c.as_slice-shapes.ensures c.in_ok-elements.ensures in
    let order = subst (λ a. IfOrder a (IsOrder (graph_of c.as_slice-2.result.now))) c.in-Order.is c.in_ok-order.ensures.order in
    subst (IsOrder (graph_of (elements_of (net_of m)))) (sym c.from_vec.ensures)
    (subst (λ es. IsOrder (graph_of es) c.in-Order.order.items) (c.as_slice-2.ensures ∙ made) order)

pub returns-in-Order-clause-bits : goal.returns-in-Order-clause-bits
returns-in-Order-clause-bits c =
    let m = c.args.top.now in
    let made = drafted_elements m c.args.draft.now c.in_ok-elements.elements c.as_slice.result.now c.as_slice-cells.result.now c.as_slice-shapes.result.now
    c.requires.draft c.as_slice.ensures c.as_slice-cells.ensures c.as_slice-shapes.ensures c.in_ok-elements.ensures in
    subst (λ a. IfOrder a (λ _. (net : Net) → c.as_slice-2.result.now ≡ elements_of net → HasBitOrder net)) c.in-Order.is
    c.in_ok-order.ensures.bits (net_of m) (c.as_slice-2.ensures ∙ made)

pub loop_names-requires-clause-netlist : goal.loop_names-requires-clause-netlist
loop_names-requires-clause-netlist c =
    let m = c.args.top.now in
    let made = drafted_elements m c.args.draft.now c.in_ok-elements.elements c.as_slice.result.now c.as_slice-cells.result.now c.as_slice-shapes.result.now
    c.requires.draft c.as_slice.ensures c.as_slice-cells.ensures c.as_slice-shapes.ensures c.in_ok-elements.ensures in (
      net_of m,
      drafted m c.args.draft.now c.as_slice-in-Loop.result.now c.as_slice-cells.result.now c.requires.draft c.as_slice-cells.ensures
          (c.as_slice-in-Loop.ensures ∙ made),
    )

pub loop_names-requires-clause-order : goal.loop_names-requires-clause-order
loop_names-requires-clause-order c =
    let m = c.args.top.now in
    let are = drafted m c.args.draft.now (elements_of (net_of m)) c.as_slice-cells.result.now c.requires.draft c.as_slice-cells.ensures refl in
    subst (AreInOrder (λ (cell : Cell). cell.name)) (sym are.cells_are) (cells_in_order m c.requires.readable.cells_order)

pub returns-clause-refuses : goal.returns-clause-refuses
returns-clause-refuses c =
    let m = c.args.top.now in
    let made = drafted_elements m c.args.draft.now c.in_ok-elements.elements c.as_slice.result.now c.as_slice-cells.result.now c.as_slice-shapes.result.now
    c.requires.draft c.as_slice.ensures c.as_slice-cells.ensures c.as_slice-shapes.ensures c.in_ok-elements.ensures in
    inr
    (c.in_ok-cells-in-Loop.ensures (net_of m)
    (drafted m c.args.draft.now c.as_slice-in-Loop.result.now c.as_slice-cells.result.now c.requires.draft c.as_slice-cells.ensures
    (c.as_slice-in-Loop.ensures ∙ made)))
