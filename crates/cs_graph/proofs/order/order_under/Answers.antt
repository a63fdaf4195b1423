-- What is arranged, as vertices.
use Rattle.std.proofs.Common.{◌≡◌, ◌<◌, ◌^◌, ℕ, List, sym, ◌∙◌, subst, arith}
use Rattle.std.specs.Prelude.{All}
use Rattle.cs_graph.specs.Order.{IsOrder, IsSimpleLoop}
use Rattle.cs_graph.proofs.OrderLemmas.{order_among, loop_among, simple_loop, order_ordered}
use Rattle.cs_graph.proofs.order.order_under.Goals as goal

few : (most : ℕ) (vs ws : List ℕ) → most < 2 ^ 32 → All (λ v. v < most) vs → ws ≡ vs
    → All (λ v. v < 2 ^ 32) ws
few most vs ws below all same = subst (All (λ v. v < 2 ^ 32)) (sym same)
    (λ k d low. let here = all k d low in omega (arith, here, below))

pub vertices_of-requires : goal.vertices_of-requires
vertices_of-requires c =
    let is = rw c.in-Order.is at c.in_ok-order.ensures.order in
    few _ c.in-Order.order.items c.as_slice.result.now c.requires.few
    (order_among c.args.graph.now c.args.lags.now c.requires.wired _ c.in_ok-dependencies.ensures
    c.in-Order.order.items is)
    c.as_slice.ensures.value

pub vertices_of-requires-in-Loop : goal.vertices_of-requires-in-Loop
vertices_of-requires-in-Loop c =
    let closed = rw c.in-Loop.is at c.in_ok-order.ensures.loop_found in
    few _ c.in-Loop.vertices.items c.as_slice-in-Loop.result.now c.requires.few
    (loop_among c.args.graph.now c.args.lags.now c.requires.wired _ c.in_ok-dependencies.ensures
    c.in-Loop.vertices.items closed)
    c.as_slice-in-Loop.ensures.value

pub returns-in-Order-clause-ok : goal.returns-in-Order-clause-ok
returns-in-Order-clause-ok c =
    let is = rw c.in-Order.is at c.in_ok-order.ensures.order in
    subst (IsOrder c.args.graph.now c.args.lags.now)
    (sym (c.in_ok-vertices_of-in-Order.ensures ∙ c.as_slice.ensures.value))
    (order_ordered c.args.graph.now c.args.lags.now c.requires.wired _ c.in_ok-dependencies.ensures
    c.in-Order.order.items is)

pub returns-clause-err : goal.returns-clause-err
returns-clause-err c =
    let closed = rw c.in-Loop.is at c.in_ok-order.ensures.loop_found in
    subst (IsSimpleLoop c.args.graph.now c.args.lags.now)
    (sym (c.in_ok-vertices_of-in-Loop.ensures ∙ c.as_slice-in-Loop.ensures.value))
    (simple_loop c.args.graph.now c.args.lags.now c.requires.wired _ c.in_ok-dependencies.ensures
    c.in-Loop.vertices.items closed)
