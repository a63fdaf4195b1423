-- Just the edges without a register stay without one.
use Rattle.std.proofs.Common.{◌≡◌, ℕ, ◌-◌, ◌^◌, ◌≤◌, min, sym, ap, ◌∙◌, subst, arith}
use Rattle.cs_graph.specs.Invariant.{IsMachine}
use Rattle.cs_graph.specs.Order.{IsOrder, no_lags}
use Rattle.cs_graph.specs.OtherContents.{register_count, with_contents}
use Rattle.cs_graph.proofs.ContentsLemmas.{with_contents_machine, with_contents_order}
use Rattle.cs_graph.proofs.machine.Machine.with_contents.Goals as goal

few_of : (count told : ℕ) → told ≡ min count (2 ^ 64 - 1) → told ≤ 65536 → count ≤ 65536
few_of count told is few = omega (arith, is, few)

pub from_parts-requires-clause-graph : goal.from_parts-requires-clause-graph
from_parts-requires-clause-graph c =
    let k = c.args.contents in
    subst IsMachine (sym (c.in_ok-graph.ensures ∙ ap (with_contents k) c.self.view_is))
    (with_contents_machine c.args.self.now k c.requires
    (subst IsMachine c.self.view_is c.self.invariant.0)
    (few_of (register_count k) c.register_count-registers.result c.register_count-registers.ensures (omega (
      arith,
      c.if-registers-gt-MOST_WEIGHT.false,
    ))))

pub from_parts-requires-clause-order : goal.from_parts-requires-clause-order
from_parts-requires-clause-order c =
    let k = c.args.contents in
    subst (λ g. IsOrder g no_lags c.from_vec.result) (sym (c.in_ok-graph.ensures ∙ ap (with_contents k)
    c.self.view_is))
    (with_contents_order c.args.self.now k c.requires c.from_vec.result
    (subst (λ g. IsOrder g no_lags c.from_vec.result) c.self.view_is (subst (IsOrder c.self.inside.graph no_lags) (sym
    (c.from_vec.ensures ∙ c.in_ok-order.ensures.items ∙ c.as_slice.ensures))
    c.self.invariant.1)))
