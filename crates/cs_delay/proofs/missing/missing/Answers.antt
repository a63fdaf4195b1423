-- The earliest type that lacks a delay, from the last vertex to the first.
use Rattle.std.proofs.Common.{◌≡◌, ◌+◌, ◌-◌, Some, drop, sym, ap, ap₂, ◌∙◌, arith}
use Rattle.std.specs.Prelude.{slice_get}
use Rattle.cs_delay.specs.Assigned.{missing, missing_of, earlier}
use Rattle.cs_delay.proofs.ListLemmas.{drop_at, drop_all}
use Rattle.cs_delay.proofs.missing.missing.Goals as goal

pub loop-v-init : goal.loop-v-init
loop-v-init c =
    let vertices = c.args.machine.now.vertices in (
      omega (arith, c.vertex_count-v.ensures),
      sym (ap (missing_of c.args.table.now) (ap (λ n. drop n vertices) c.vertex_count-v.ensures ∙ drop_all vertices)),
    )

pub loop-v-preserved : goal.loop-v-preserved
loop-v-preserved c =
    let vertices = c.args.machine.now.vertices in
    let found : slice_get vertices (c.loop-v.v - 1) ≡ Some c.vertex-vertex.result.now =
    ap (slice_get vertices) (sym c.new.ensures) ∙ c.vertex-vertex.ensures in
    let before : c.loop-v.v - 1 + 1 ≡ c.loop-v.v = omega (arith, c.loop-v-test.true) in (
      omega (arith, c.loop-v.invariant.0),
      c.earlier-first.ensures
          ∙ ap₂ earlier c.lacking.ensures
          (c.loop-v.invariant.1 ∙ ap (λ n. missing_of c.args.table.now (drop n vertices)) (sym before))
          ∙ sym (ap (missing_of c.args.table.now) (drop_at vertices (c.loop-v.v - 1) c.vertex-vertex.result.now found)),
    )

pub returns : goal.returns
unfolding missing
returns c =
    let none_left : c.loop-v.v ≡ 0 = omega (arith, c.loop-v-test.false) in
    c.loop-v.invariant.1
    ∙ ap (λ n. missing_of c.args.table.now (drop n c.args.machine.now.vertices)) none_left
