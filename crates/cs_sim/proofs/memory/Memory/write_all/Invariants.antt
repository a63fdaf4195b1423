use Rattle.std.proofs.Common.{◌≡◌, map, drop, fold}
use Rattle.cs_cells.specs.Memories.{after_write}
use Rattle.cs_sim.specs.Clock.{write_in}
use Rattle.cs_sim.proofs.memory.Memory.write_all.Given as goal

abbrev pub invariant-loop-port : goal.invariant-loop-port
invariant-loop-port l =
    fold after_write l.self (map (write_in l.values) (drop l.port-index l.ports))
    ≡ fold after_write l.initial.self (map (write_in l.values) l.ports)
