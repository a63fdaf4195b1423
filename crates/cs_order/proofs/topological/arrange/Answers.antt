-- A loop is the path from where it begins; an order is complete once all roots are visited.
use Rattle.std.proofs.Common.{arith, below_more}
use Rattle.cs_order.specs.Graphs.{IsOrder, IsLoop}
use Rattle.cs_order.specs.Searches.{IsSeen}
use Rattle.cs_base.proofs.ListLemmas.{at_contains}
use Rattle.cs_order.proofs.CallerLemmas.{order_no_loop}
use Rattle.cs_order.proofs.SearchLemmas.{loop_from, ended}
use Rattle.cs_order.proofs.topological.arrange.Goals as goal

pub path_from-requires : goal.path_from-requires
path_from-requires c =
    let s = c.in_ok-start.ensures.search in
    let some = rw c.in-Some.is at c.in_ok-start.ensures.some in
    let i = s.on_path.stand c.in-Some.start some.1 in
    at_contains c.visit.new.self.path.items i.0 c.in-Some.start i.1

pub returns-in-Some-clause-loop_found : goal.returns-in-Some-clause-loop_found
returns-in-Some-clause-loop_found c =
    let some = rw c.in-Some.is at c.in_ok-start.ensures.some in
    let path = c.visit.new.self.path.items in
    loop_from c.args.graph.now _ _ path _ c.in-Some.start c.in_ok-path_from.field-0.items
    c.in_ok-start.ensures.search some.0 c.in_ok-path_from.ensures

pub returns-in-Some-clause-no_order : goal.returns-in-Some-clause-no_order
returns-in-Some-clause-no_order c =
    let some = rw c.in-Some.is at c.in_ok-start.ensures.some in
    let g = c.args.graph.now in
    let path = c.visit.new.self.path.items in
    let vs = c.in_ok-path_from.field-0.items in
    let closed : IsLoop g vs = loop_from g _ _ path _ c.in-Some.start vs
    c.in_ok-start.ensures.search some.0 c.in_ok-path_from.ensures in
    λ (order, is). order_no_loop g order vs is closed

pub loop-root-preserved : goal.loop-root-preserved
loop-root-preserved c =
    let none = rw c.in_default.is at c.in_ok-start.ensures.none in
    record {
      search = c.in_ok-start.ensures.search;
      rest = none.0;
      met = below_more (λ v. IsSeen c.visit.new.self.states.items v) c.loop-root.root
          (λ v below. none.1 v (c.loop-root.invariant.met v below)) none.2;
    }

pub returns-clause-order : goal.returns-clause-order
returns-clause-order c =
    let h = c.loop-root.invariant in
    ended c.args.graph.now _ _ _ c.loop-root.search.order.items h.search h.rest
    (λ v below. h.met v (omega (arith, c.len-root-end.ensures, c.loop-root-test.false)))

pub returns-clause-no_loop : goal.returns-clause-no_loop
returns-clause-no_loop c =
    let h = c.loop-root.invariant in
    let g = c.args.graph.now in
    let order = c.loop-root.search.order.items in
    let is : IsOrder g order = ended g _ _ _ order h.search h.rest
    (λ v below. h.met v (omega (arith, c.len-root-end.ensures, c.loop-root-test.false))) in
    λ (vs, closed). order_no_loop g order vs is closed
