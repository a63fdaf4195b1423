-- The drivers of the edges so far.
use Rattle.std.proofs.Common.{◌≡◌, map, take}
use Rattle.cs_share.specs.Registers.{driver_of_edge}
use Rattle.cs_share.proofs.emission.edge_drivers.Given as goal

abbrev pub invariant-loop-e : goal.invariant-loop-e
invariant-loop-e l = l.drivers ≡ map driver_of_edge (take l.e l.machine.edges)
