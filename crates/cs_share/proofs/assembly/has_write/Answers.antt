-- One vertex more.
use Rattle.std.proofs.Common.{◌≡◌, ◌∙◌, ◌+◌, ◌||◌, Bool, Some, drop, sym, ap, subst}
use Rattle.std.specs.Prelude.{slice_get}
use Rattle.std.specs.List.{list_any}
use Rattle.cs_graph.specs.declared.vertex.Vertex.{Vertex}
use Rattle.cs_share.specs.Shared.{is_write}
use Rattle.cs_share.proofs.PlanLemmas.{dropped_at}
use Rattle.cs_share.proofs.assembly.has_write.Goals as goal

abbrev test : Vertex → Bool
test x = is_write x.kind

pub returns-then-is_write : goal.returns-then-is_write
returns-then-is_write c =
    let g = c.args.machine.now in
    let x = c.vertex.result.now in
    let v = c.loop-v.v in
    let found = subst (λ u. slice_get g.vertices u ≡ Some x) c.new.ensures c.vertex.ensures in
    sym (sym c.loop-v.invariant ∙ ap (list_any test) (dropped_at g.vertices v x found)
    ∙ ap (λ (b : Bool). b || list_any test (drop (v + 1) g.vertices)) (sym c.is_write.ensures ∙ c.if-is_write.true))

pub loop-v-preserved : goal.loop-v-preserved
loop-v-preserved c =
    let g = c.args.machine.now in
    let x = c.vertex.result.now in
    let v = c.loop-v.v in
    let found = subst (λ u. slice_get g.vertices u ≡ Some x) c.new.ensures c.vertex.ensures in
    sym (ap (list_any test) (dropped_at g.vertices v x found)
    ∙ ap (λ (b : Bool). b || list_any test (drop (v + 1) g.vertices)) (sym c.is_write.ensures ∙ c.if-is_write.false))
    ∙ c.loop-v.invariant
