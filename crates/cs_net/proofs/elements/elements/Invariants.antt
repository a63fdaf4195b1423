use Rattle.std.proofs.Common.{◌≡◌, ◌++◌, drop, flat_map}
use Rattle.std.specs.List.{enumerate_from, zip}
use Rattle.cs_net.specs.Elements.{cell_elements}
use Rattle.cs_net.proofs.elements.elements.Given as goal

-- the elements of the cells that are left come after those that are pushed
abbrev pub invariant-loop-place : goal.invariant-loop-place
invariant-loop-place l =
    l.elements ++ flat_map cell_elements (enumerate_from l.place (drop l.place (zip l.cells l.shapes)))
    ≡ l.initial.elements ++ flat_map cell_elements (enumerate_from 0 (zip l.cells l.shapes))
