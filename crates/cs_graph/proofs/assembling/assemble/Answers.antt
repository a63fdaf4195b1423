-- The machine of a whole draft.
use Rattle.std.proofs.Common.{◌≡◌, ◌^◌, ◌<◌, List, length, sym, ap, ◌∙◌, subst, arith}
use Rattle.std.specs.Prelude.{slice_get}
use Rattle.cs_graph.specs.declared.source.OpenVertex.{OpenVertex}
use Rattle.cs_graph.specs.declared.graph.Graph.{Graph}
use Rattle.cs_graph.specs.declared.memory.Memory.{Memory}
use Rattle.cs_graph.specs.declared.order.OrderError.TheVariants.{Loop}
use Rattle.cs_graph.specs.Draft.{Draft, built}
use Rattle.cs_graph.specs.Invariant.{IsMachine}
use Rattle.cs_graph.specs.Order.{IsWired, TellsLoop, no_lags}
use Rattle.cs_graph.proofs.BuiltLemmas.{built_machine, built_wired, length_vertices_from}
use Rattle.cs_graph.proofs.FinishLemmas.{draft_pins_few}
use Rattle.cs_graph.proofs.RetimedLoops.{lags_no_loop}
use Rattle.cs_graph.proofs.assembling.assemble.Goals as goal

pub number-requires-clause-pins : goal.number-requires-clause-pins
number-requires-clause-pins c = λ v x found.
    draft_pins_few (record { vertices = c.args.vertices; memories = c.args.memories }) c.requires.draft v x
    (ap (λ (xs : List OpenVertex). slice_get xs v) (sym c.into_vec.ensures) ∙ found)

-- what is built of the given vertices is what is built of them in a `Vec`
built_same : (given items : List OpenVertex) (memories : List Memory) → items ≡ given
    → built (record { vertices = items; memories = memories }) ≡ built (record { vertices = given; memories = memories })
built_same given items memories is = ap (λ xs. built (record { vertices = xs; memories = memories })) is

pub order_under-requires-clause-wired : goal.order_under-requires-clause-wired
order_under-requires-clause-wired c =
    subst IsWired (sym (c.in_ok-graph.ensures ∙ built_same c.args.vertices c.into_vec.result.items c.args.memories c.into_vec.ensures))
    (built_wired (record { vertices = c.args.vertices; memories = c.args.memories }) c.requires.draft)

pub order_under-requires-clause-few : goal.order_under-requires-clause-few
order_under-requires-clause-few c =
    let few = c.requires.draft.limits.vertices in
    let count = length_vertices_from 0 c.args.vertices in
    subst (λ (g : Graph). length g.vertices < 2 ^ 32) (sym (c.in_ok-graph.ensures ∙ built_same c.args.vertices c.into_vec.result.items c.args.memories c.into_vec.ensures))
    (omega (arith, few, count))

pub from_parts-requires-clause-graph : goal.from_parts-requires-clause-graph
from_parts-requires-clause-graph c =
    subst IsMachine (sym (c.in_ok-graph.ensures ∙ built_same c.args.vertices c.into_vec.result.items c.args.memories c.into_vec.ensures))
    (built_machine (record { vertices = c.args.vertices; memories = c.args.memories }) c.requires.draft
    c.requires.order)

pub unreachable-requires : goal.unreachable-requires
unreachable-requires c =
    let is = subst (λ e. TellsLoop c.in_ok-graph.graph no_lags e) c.in-Err-Loop.field-0-is c.in-Err-Loop.ensures.err in
    let same = c.in_ok-graph.ensures ∙ built_same c.args.vertices c.into_vec.result.items c.args.memories c.into_vec.ensures in
    lags_no_loop (built (record { vertices = c.args.vertices; memories = c.args.memories })) c.requires.order no_lags
    c.in-Err-Loop.field-0-0
    (subst (λ g. TellsLoop g no_lags (Loop c.in-Err-Loop.field-0-0)) same is).0
