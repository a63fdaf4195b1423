use Rattle.std.proofs.Common.{◌≡◌, ◌++◌, drop, length, map}
use Rattle.cs_net.specs.Elements.{sources}
use Rattle.cs_net.proofs.elements.graph.graph_over.Given as goal

-- the vertices that are left come after those that are added
abbrev pub invariant-loop-element : goal.invariant-loop-element
invariant-loop-element l =
    (l.graph ++ map (sources l.elements) (drop l.element-index l.elements)
    ≡ map (sources l.elements) l.elements)
    × (length l.graph ≡ l.element-index)
