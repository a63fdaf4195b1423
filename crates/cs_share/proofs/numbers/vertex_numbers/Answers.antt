-- The numbers of one vertex more.
use Rattle.std.proofs.Common.{◌≡◌, ◌∙◌, ◌+◌, ◌++◌, [], ◌∷◌, ℕ, List, Some, map, take, sym, ap, ap₂, subst, arith}
use Rattle.std.specs.Prelude.{slice_get}
use Rattle.std.specs.List.{sum_by}
use Rattle.cs_graph.specs.declared.vertex.Vertex.{Vertex}
use Rattle.cs_net.proofs.MemoryPlaces.{at_map}
use Rattle.cs_share.specs.Planned.{number_by}
use Rattle.cs_share.specs.Shared.{all_logic_bits, logic_bits}
use Rattle.cs_share.proofs.CircuitBlocks.{part_within}
use Rattle.cs_share.proofs.Numbered.{inputs_few, inputs_more, inputs_none, mapped_more, number_of, one_at_most, summed_more, taken_none}
use Rattle.cs_share.proofs.numbers.vertex_numbers.Goals as goal

pub loop-v-init : goal.loop-v-init
loop-v-init c =
    let g = c.args.machine.now in
    let none = taken_none g.vertices in
    record {
      vertices = c.new-vertices.ensures ∙ sym (none_mapped none);
      before = sym (inputs_none g.vertices);
      next = let bits = ap (all_logic_bits g.memories) none in omega (arith, bits);
    }
  where
    none_mapped : take 0 c.args.machine.now.vertices ≡ []
        → map (number_of c.args.machine.now c.args.inputs.now c.args.first)
        (Rattle.std.specs.List.enumerate_from 0 (take 0 c.args.machine.now.vertices)) ≡ []
    none_mapped none = ap (λ xs. map (number_of c.args.machine.now c.args.inputs.now c.args.first)
        (Rattle.std.specs.List.enumerate_from 0 xs)) none

pub overflow_add-before : goal.overflow_add-before
overflow_add-before c =
    let g = c.args.machine.now in
    let few = inputs_few g.vertices c.loop-v.v in
    let before = c.loop-v.invariant.before in
    let low = c.loop-v-test.true in
    let count = c.vertex_count-v-end.ensures in
    let most = c.keeps.ensures.limits.vertices in
    let one = one_at_most c.vertex-vertex.result.now in
    let is = c.input_count-before.ensures in
    omega (arith, few, before, low, count, most, one, is)

pub logic_bits-next-requires : goal.logic_bits-next-requires
logic_bits-next-requires c =
    let g = c.args.machine.now in
    let x = c.vertex-vertex.result.now in
    c.keeps.ensures.memories.there c.new.result x.kind
    (at_map (λ (y : Vertex). y.kind) g.vertices c.new.result x c.vertex-vertex.ensures)

pub overflow_add-next : goal.overflow_add-next
overflow_add-next c =
    let g = c.args.machine.now in
    let x = c.vertex-vertex.result.now in
    let found = subst (λ u. slice_get g.vertices u ≡ Some x) c.new.ensures c.vertex-vertex.ensures in
    let within = part_within (λ (y : Vertex). logic_bits g.memories y.kind) g.vertices c.loop-v.v x found in
    let next = c.loop-v.invariant.next in
    let is = c.logic_bits-next.ensures in
    let few = c.requires.few in
    omega (arith, within, next, is, few)

pub loop-v-preserved : goal.loop-v-preserved
loop-v-preserved c =
    let g = c.args.machine.now in
    let x = c.vertex-vertex.result.now in
    let v = c.loop-v.v in
    let found = subst (λ u. slice_get g.vertices u ≡ Some x) c.new.ensures c.vertex-vertex.ensures in
    record {
      vertices =
          c.in_ok-push.ensures.ok
          ∙ ap₂ (λ (ns : List ℕ) (n : ℕ). ns ++ n ∷ []) c.loop-v.invariant.vertices
          (c.number_by.ensures ∙ ap₂ (λ a b. number_by c.args.inputs.now a b x.kind) c.loop-v.invariant.before c.loop-v.invariant.next)
          ∙ sym (mapped_more (number_of g c.args.inputs.now c.args.first) g.vertices v x found);
      before =
          ap₂ (λ (a : ℕ) (b : ℕ). a + b) c.loop-v.invariant.before c.input_count-before.ensures
          ∙ sym (inputs_more g.vertices v x found);
      next =
          let more = summed_more (λ (y : Vertex). logic_bits g.memories y.kind) g.vertices v x found in
          let next = c.loop-v.invariant.next in
          let is = c.logic_bits-next.ensures in
          omega (arith, more, next, is);
    }
