-- Vertex by vertex.
use Rattle.std.proofs.Common.{◌≡◌, ◌++◌, List, length, ap, ◌∙◌, arith}
use Rattle.std.specs.List.{sum_by}
use Rattle.std.specs.Vec.Iter.{into_iter_items}
use Rattle.cs_graph.specs.declared.vertex.Feed.{Feed}
use Rattle.cs_graph.specs.Draft.{driven, registers, feeds_from, edges_into}
use Rattle.cs_graph.proofs.NumberingLemmas.{next_is_small, vertices_go_on}
use Rattle.cs_graph.proofs.numbering.number.Goals as goal

pub overflow_cast-len : goal.overflow_cast-len
overflow_cast-len c =
    let more = ap length c.in-Some.ensures.steps.0 in
    omega (arith, c.loop-vertex.invariant.so_far.count, more, c.len.ensures, c.requires.vertices)

pub feed_pins-requires : goal.feed_pins-requires
feed_pins-requires c =
    let sources = c.into_vec-sources.ensures in
    let small = next_is_small c.args.vertices.items c.loop-vertex.numbered c.loop-vertex.edges
    (into_iter_items c.loop-vertex.vertex-iterator) (into_iter_items c.next.new.self) c.in-Some.vertex
    c.loop-vertex.invariant.so_far c.in-Some.ensures.steps.0 c.requires.edges c.requires.registers in
    record {
      pins = omega (arith, ap length sources, small.0);
      few = omega (arith, ap (sum_by driven) sources, small.1);
      short = omega (arith, ap (sum_by registers) sources, small.2);
    }

pub loop-vertex-preserved : goal.loop-vertex-preserved
loop-vertex-preserved c =
    let steps = c.in-Some.ensures.steps in
    let x = c.in-Some.vertex in
    let edges = c.loop-vertex.edges in
    let id = c.new-id.ensures ∙ c.len.ensures in
    let sources : c.into_vec-sources.result.items ≡ x.pins = c.into_vec-sources.ensures in
    record {
      so_far = vertices_go_on c.args.vertices.items c.loop-vertex.numbered c.push.new.self edges
          c.feed_pins.new.edges
          (into_iter_items c.loop-vertex.vertex-iterator) (into_iter_items c.next.new.self) x
          (record { kind = x.kind; pins = c.in_ok-pins.pins }) c.new-id.result
          c.loop-vertex.invariant.so_far steps.0 id
          (ap (λ (ps : List Feed). record { kind = x.kind; pins = ps })
          (c.in_ok-pins.ensures.pins ∙ ap (feeds_from (length edges)) sources))
          c.in_ok-push.ensures.ok
          (c.in_ok-pins.ensures.edges ∙ ap (λ ss. edges ++ edges_into c.new-id.result 0 ss) sources);
      left =
          let more = ap length steps.0 in
          omega (arith, more, steps.1, c.loop-vertex.invariant.left);
    }
