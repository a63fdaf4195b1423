use Rattle.cs_net.proofs.ElementGraphs.{bits_arranged}
use Rattle.cs_net.proofs.elements.graph.arrange_elements.Goals as goal

pub returns-clause-bits : goal.returns-clause-bits
returns-clause-bits c =
    bits_arranged c.args.elements.now c.in_ok-graph.field-0 c.arrange-2.result
    c.in_ok-graph.ensures c.arrange-2.ensures.order
