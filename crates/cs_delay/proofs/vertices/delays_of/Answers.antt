-- The delays of all vertices.
use Rattle.std.proofs.Common.{◌≡◌, ℕ, List, [], ◌∷◌, ◌++◌, Some, length, map, take, sym, ap, ap₂, ◌∙◌, subst, arith}
use Rattle.std.specs.Prelude.{slice_get}
use Rattle.cs_graph.specs.Period.{ArePinsOf}
use Rattle.cs_graph.specs.declared.vertex.Vertex.{Vertex}
use Rattle.cs_delay.specs.Assigned.{pin_delays, vertex_delay}
use Rattle.cs_delay.proofs.DelayLemmas.{delays_kept, pins_fit, length-map}
use Rattle.cs_delay.proofs.ListLemmas.{map_take_more, take_all}
use Rattle.cs_delay.proofs.vertices.delays_of.Goals as goal

pub loop-v-preserved : goal.loop-v-preserved
loop-v-preserved c =
    let vertices = c.args.machine.now.vertices in
    let vertex : Vertex = c.vertex.result.now in
    let found : slice_get vertices c.loop-v.v ≡ Some vertex = ap (slice_get vertices) (sym c.new.ensures) ∙ c.vertex.ensures in (
      c.in_ok-push.ensures.ok
          ∙ ap₂ (λ front d. front ++ d ∷ []) c.loop-v.invariant.0 c.in_ok-delay.ensures.vertex
          ∙ sym (map_take_more (λ (x : Vertex). vertex_delay c.args.table.now x.kind) vertices c.loop-v.v vertex found),
      c.in_ok-push-2.ensures.ok
          ∙ ap₂ (λ front ds. front ++ ds ∷ []) c.loop-v.invariant.1 c.in_ok-delay.ensures.pins
          ∙ sym (map_take_more (pin_delays c.args.table.now) vertices c.loop-v.v vertex found),
    )

pub invariant_of-result : goal.invariant_of-result
invariant_of-result c =
    let kept =
    delays_kept c.args.table.now (take c.loop-v.v c.args.machine.now.vertices)
    c.loop-v.per_vertex c.loop-v.per_pin c.loop-v.invariant.0 c.loop-v.invariant.1 in
    record { lists = kept.lists; vertices = kept.vertices; pins = kept.pins }

pub returns-clause-fits : goal.returns-clause-fits
returns-clause-fits c =
    let table = c.args.table.now in
    let vertices = c.args.machine.now.vertices in
    let count : c.loop-v.v ≡ length vertices =
    omega (arith, c.loop-v-test.false, c.loop-v.auto.v-end, c.vertex_count-v-end.ensures) in
    let whole : take c.loop-v.v vertices ≡ vertices = ap (λ n. take n vertices) count ∙ take_all vertices in
    let pins : c.loop-v.per_pin ≡ map (pin_delays table) vertices =
    c.loop-v.invariant.1 ∙ ap (map (pin_delays table)) whole in
    let P : List (List ℕ) → Type 0 = ArePinsOf vertices in
    record {
      vertices =
          ap length c.loop-v.invariant.0
          ∙ length-map (λ (x : Vertex). vertex_delay table x.kind) (take c.loop-v.v vertices)
          ∙ ap length whole;
      pins = subst P (sym pins) (pins_fit table c.args.machine.now c.keeps.ensures);
    }
