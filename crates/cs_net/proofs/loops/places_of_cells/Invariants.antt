use Rattle.std.proofs.Common.{◌≡◌, map, take}
use Rattle.cs_net.specs.Loops.{place_of_cell}
use Rattle.cs_net.proofs.loops.places_of_cells.Given as goal

abbrev pub invariant-loop-vertex : goal.invariant-loop-vertex
invariant-loop-vertex l = l.places.items ≡ map (place_of_cell l.elements) (take l.vertex-index l.vertices)
