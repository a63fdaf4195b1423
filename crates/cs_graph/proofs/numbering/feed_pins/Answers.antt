-- Pin by pin.
use Rattle.std.proofs.Common.{length, ap, ◌∙◌, arith}
use Rattle.std.specs.Vec.Iter.{into_iter_items}
use Rattle.cs_graph.proofs.NumberingLemmas.{pins_go_on, pins_end, counts_next}
use Rattle.cs_graph.proofs.numbering.feed_pins.Goals as goal

pub overflow_cast-pin : goal.overflow_cast-pin
overflow_cast-pin c =
    let so_far = c.loop-source.invariant.so_far in
    let more = ap length c.in-Some.ensures.steps.0 in
    omega (arith, so_far.count, more, c.len-pin.ensures, c.requires.pins)

pub feed_pin-requires : goal.feed_pin-requires
feed_pin-requires c =
    let so_far = c.loop-source.invariant.so_far in
    let made = counts_next c.in-Some.source (into_iter_items c.loop-source.source-iterator)
    (into_iter_items c.next.new.self) c.in-Some.ensures.steps.0 in
    record {
      few = omega (arith, so_far.room, made.0, c.requires.few);
      short = omega (arith, so_far.short, made.1, c.requires.short);
    }

pub loop-source-preserved : goal.loop-source-preserved
loop-source-preserved c =
    let steps = c.in-Some.ensures.steps in
    record {
      so_far = pins_go_on c.args.to c.args.edges.now c.args.sources.items c.loop-source.pins c.push.new.self
          c.loop-source.edges c.feed_pin.new.edges (into_iter_items c.loop-source.source-iterator)
          (into_iter_items c.next.new.self) c.in-Some.source c.in_ok-feed_pin.field-0 c.len-pin.result
          c.loop-source.invariant.so_far steps.0 c.len-pin.ensures c.in_ok-feed_pin.ensures.feed
          c.in_ok-push.ensures.ok c.in_ok-feed_pin.ensures.edges;
      left =
          let more = ap length steps.0 in
          omega (arith, more, steps.1, c.loop-source.invariant.left);
    }

pub returns : goal.returns
returns c =
    let ended = pins_end c.args.to c.args.edges.now c.args.sources.items c.loop-source.pins
    c.loop-source.edges
    (into_iter_items c.loop-source.source-iterator) c.loop-source.invariant.so_far
    (c.loop-source.invariant.left ∙ c.in-None.ensures.steps.0) in
    record { pins = ended.0; edges = ended.1 }
