-- The machine of what the builder holds.
use Rattle.std.proofs.Common.{◌^◌, ◌<◌, List, length, sym, ap, ◌∙◌, subst, arith}
use Rattle.std.specs.Prelude.{slice_get}
use Rattle.cs_graph.specs.declared.source.OpenVertex.{OpenVertex}
use Rattle.cs_graph.specs.declared.graph.Graph.{Graph}
use Rattle.cs_graph.specs.Draft.{Draft, AreFed, built}
use Rattle.cs_graph.specs.Invariant.{IsMachine}
use Rattle.cs_graph.specs.Order.{IsWired, IsLoop, IsSimpleLoop, IsOrder, TellsLoop, no_lags}
use Rattle.cs_graph.proofs.BuiltLemmas.{built_wired, length_vertices_from}
use Rattle.cs_graph.proofs.FinishLemmas.{draft_pins_few, finished, no_loop}
use Rattle.cs_graph.proofs.builder.MachineBuilder.finish.Goals as goal

pub first_open-requires-clause-pins : goal.first_open-requires-clause-pins
first_open-requires-clause-pins c = λ v x found.
    draft_pins_few (record { vertices = c.self.inside.vertices.items; memories = c.self.inside.memories })
    c.self.invariant.0
    v x (ap (λ (xs : List OpenVertex). slice_get xs v) (sym c.as_slice.ensures.value) ∙ found)

pub number-requires-clause-pins : goal.number-requires-clause-pins
number-requires-clause-pins c = λ v x found.
    draft_pins_few (record { vertices = c.self.inside.vertices.items; memories = c.self.inside.memories })
    c.self.invariant.0 v x found

pub order_under-requires-clause-wired : goal.order_under-requires-clause-wired
order_under-requires-clause-wired c =
    subst IsWired (sym c.in_ok-graph.ensures)
    (built_wired (record { vertices = c.self.inside.vertices.items; memories = c.self.inside.memories })
    c.self.invariant.0)

pub order_under-requires-clause-few : goal.order_under-requires-clause-few
order_under-requires-clause-few c =
    let d : Draft = record { vertices = c.self.inside.vertices.items; memories = c.self.inside.memories } in
    let is = c.self.invariant.0 in
    let few = is.limits.vertices in
    let count = length_vertices_from 0 d.vertices in
    subst (λ (g : Graph). length g.vertices < 2 ^ 32) (sym c.in_ok-graph.ensures) (omega (arith, few, count))

pub from_parts-requires : goal.from_parts-requires
from_parts-requires c =
    let d : Draft = record { vertices = c.self.inside.vertices.items; memories = c.self.inside.memories } in
    let order = subst (λ (g : Graph). IsOrder g no_lags c.in-Ok.order) c.in_ok-graph.ensures
    c.in-Ok.ensures.ok in
    record {
      graph = subst IsMachine (sym c.in_ok-graph.ensures) (finished d c.in-Ok.order c.self.invariant.0 order);
      order = c.in-Ok.ensures.ok;
    }

pub returns-in-Ok-clause-fed : goal.returns-in-Ok-clause-fed
returns-in-Ok-clause-fed c =
    subst (λ (d : Draft). AreFed d.vertices) c.self.view_is (subst AreFed c.as_slice.ensures.value
    c.in_default.ensures.none)

pub returns-in-Ok-clause-no_loop : goal.returns-in-Ok-clause-no_loop
returns-in-Ok-clause-no_loop c = λ vertices is_loop.
    let d : Draft = record { vertices = c.self.inside.vertices.items; memories = c.self.inside.memories } in
    let order = subst (λ (g : Graph). IsOrder g no_lags c.in-Ok.order) c.in_ok-graph.ensures
    c.in-Ok.ensures.ok in
    no_loop d c.in-Ok.order vertices c.self.invariant.0 order
    (subst (λ (d : Draft). IsLoop (built d) no_lags vertices) (sym c.self.view_is) is_loop)

pub returns-in-Err-Loop-clause-cause : goal.returns-in-Err-Loop-clause-cause
returns-in-Err-Loop-clause-cause c = (
  subst (λ (d : Draft). AreFed d.vertices) c.self.view_is (subst AreFed c.as_slice.ensures.value
      c.in_default.ensures.none),
  subst (λ (g : Graph). IsSimpleLoop g no_lags c.in-Err-Loop.vertices) (c.in_ok-graph.ensures ∙ ap built
      c.self.view_is)
      (subst (λ e. TellsLoop c.in_ok-graph.graph no_lags e) c.in-Err-Loop.field-0-is c.in-Err-Loop.ensures.err),
)
