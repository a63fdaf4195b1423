use Rattle.std.proofs.Common.{ap, filter_map, map, nat_eq, ◌∙◌}
use Rattle.std.specs.HashMap.{get}
use Rattle.std.specs.Option.{option_and_then}
use Rattle.cs_modules.specs.Signals.{number_in}
use Rattle.cs_net.specs.Elements.{sources}
use Rattle.cs_net.proofs.ElementGraphs.{all_added, next_vertex, one_longer}
use Rattle.cs_net.proofs.elements.graph.graph_over.Goals as goal

pub loop-element-preserved : goal.loop-element-preserved
loop-element-preserved c =
    let es = c.args.elements.now in (
      next_vertex es c.loop-element.element-index c.element-item.result (get nat_eq c.args.owners.now)
          c.as_slice-in-loop-element.result.now c.loop-element.graph c.add_vertex.new.self
          (map (sources es) es)
          c.loop-element-test.true c.element-item.is c.requires
          (c.as_slice-in-loop-element.ensures.value ∙ c.in_ok-sources.ensures
          ∙ ap (filter_map (λ s. option_and_then (get nat_eq c.args.owners.now) (number_in s)))
          c.as_slice.ensures)
          c.loop-element.invariant.0 c.in_ok-add_vertex.ensures.ok,
      one_longer c.loop-element.graph c.add_vertex.new.self c.as_slice-in-loop-element.result.now
          c.loop-element.element-index c.loop-element.invariant.1 c.in_ok-add_vertex.ensures.ok,
    )

pub returns : goal.returns
returns c =
    all_added c.args.elements.now c.loop-element.element-index c.loop-element.graph
    c.loop-element-test.false c.loop-element.invariant.0
