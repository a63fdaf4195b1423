-- A vertex more.
use Rattle.std.proofs.Common.{◌≡◌, ◌*◌, ◌∙◌, Some, length, ap, subst, arith}
use Rattle.std.specs.Prelude.{min, slice_get}
use Rattle.std.proofs.lemmas.Nat.{mul-le}
use Rattle.cs_bank.specs.ContextBits.{context_vertices}
use Rattle.cs_bank.specs.Measures.{banked_extent, extent}
use Rattle.cs_bank.specs.Wired.{wired, wired_vertex}
use Rattle.cs_bank.proofs.Counted.{count_begins, count_ends, count_more, most}
use Rattle.cs_bank.proofs.MeasureLemmas.{bits_count, machine_counts}
use Rattle.cs_bank.proofs.measures.banked_count.Goals as goal

pub loop-v-init : goal.loop-v-init
loop-v-init c =
    let g = c.args.machine.now in
    let n = length g.vertices in
    let few = mul-le c.context_bits.result c.of_context_bit.result 4 16 c.context_bits.ensures.few c.of_context_bit.ensures.few in
    count_begins (λ x. banked_extent c.args.measure c.args.contexts (wired g) (wired_vertex g.edges x)) g.vertices
    (c.context_bits.result * c.of_context_bit.result) (extent c.args.measure (context_vertices c.args.contexts n))
    (ap (λ b. b * c.of_context_bit.result) c.context_bits.ensures.is
    ∙ bits_count c.args.measure c.args.contexts n c.of_context_bit.result c.of_context_bit.ensures.is)
    (omega (arith, few))

pub loop-v-preserved : goal.loop-v-preserved
loop-v-preserved c =
    let g = c.args.machine.now in
    let n = length g.vertices in
    let x = c.vertex-vertex.result.now in
    let found = subst (λ u. slice_get g.vertices u ≡ Some x) c.new.ensures c.vertex-vertex.ensures in
    count_more (λ y. banked_extent c.args.measure c.args.contexts (wired g) (wired_vertex g.edges y)) g.vertices
    c.loop-v.v c.loop-v.total (extent c.args.measure (context_vertices c.args.contexts n)) x c.of_banked.result
    c.saturating_add-total.result c.loop-v.invariant found c.of_banked.ensures c.saturating_add-total.ensures

pub returns : goal.returns
returns c =
    let g = c.args.machine.now in
    let n = length g.vertices in
    let all = c.loop-v-test.false in
    let many = c.vertex_count-v-end.ensures in
    count_ends (λ x. banked_extent c.args.measure c.args.contexts (wired g) (wired_vertex g.edges x)) g.vertices
    c.loop-v.v c.loop-v.total (extent c.args.measure (context_vertices c.args.contexts n)) c.loop-v.invariant
    (omega (arith, all, many))
    ∙ ap (λ k. min k most) (machine_counts c.args.measure c.args.contexts g)
