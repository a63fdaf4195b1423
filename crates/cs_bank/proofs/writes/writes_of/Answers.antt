-- A vertex more.
use Rattle.std.proofs.Common.{◌≡◌, ◌∙◌, Some, [], length, replicate, take, sym, ap, ap₂, subst, arith}
use Rattle.std.specs.Prelude.{slice_get}
use Rattle.std.proofs.lemmas.List.FromFn.{length-map-range_with_len}
use Rattle.cs_bank.specs.WritePlaces.{noted_in, writes_from}
use Rattle.cs_bank.proofs.MachineWrites.{write_is}
use Rattle.cs_bank.proofs.Noted.{noted, noted_next, nothing_noted}
use Rattle.cs_bank.proofs.StartLemmas.{take_none}
use Rattle.cs_bank.proofs.writes.writes_of.Goals as goal

pub loop-v-init : goal.loop-v-init
loop-v-init c =
    let g = c.args.machine.now in
    let n = length g.memories in
    c.in_ok-lists.ensures
    ∙ ap (λ count. replicate count []) c.memory_count.ensures
    ∙ nothing_noted n
    ∙ ap (λ xs. noted xs n) (sym (take_none g.vertices))

pub note_vertex-requires : goal.note_vertex-requires
note_vertex-requires c memory port kind =
    let g = c.args.machine.now in
    let there = (write_is g c.keeps.ensures c.new-v.result memory port c.vertex.result.now c.vertex.ensures kind).there in
    let count = ap length c.loop-v.invariant
    ∙ length-map-range_with_len (λ i. writes_from i 0 (take c.loop-v.v g.vertices)) 0 (length g.memories) in
    omega (arith, there, count)

pub loop-v-preserved : goal.loop-v-preserved
loop-v-preserved c =
    let g = c.args.machine.now in
    let x = c.vertex.result.now in
    let n = length g.memories in
    let v = c.loop-v.v in
    let found = subst (λ u. slice_get g.vertices u ≡ Some x) c.new-v.ensures c.vertex.ensures in
    let low = c.loop-v-test.true in
    let many = c.vertex_count-v-end.ensures in
    c.in_ok-note_vertex.ensures
    ∙ ap₂ (λ ls u. noted_in ls u x.kind) c.loop-v.invariant c.new-v.ensures
    ∙ noted_next g.vertices n v x (omega (arith, low, many)) found
    (λ memory port kind. (write_is g c.keeps.ensures v memory port x found kind).there)
