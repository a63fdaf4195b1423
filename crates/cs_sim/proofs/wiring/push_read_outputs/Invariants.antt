use Rattle.std.proofs.Common.{◌≡◌, ◌++◌, codes, drop, flat_map}
use Rattle.std.specs.List.{enumerate_from}
use Rattle.cs_net.specs.Drivers.{port_part}
use Rattle.cs_sim.proofs.wiring.push_read_outputs.Given as goal

-- the data bits of the read ports that are left come after those that are pushed
abbrev pub invariant-loop-port : goal.invariant-loop-port
invariant-loop-port l =
    l.signals.items ++ flat_map (λ e. port_part l.cell (codes "RD_DATA") l.shape.width e.0) (enumerate_from l.port (drop l.port l._read-items))
    ≡ l.fn.signals.items ++ flat_map (λ e. port_part l.cell (codes "RD_DATA") l.shape.width e.0) (enumerate_from 0 l._read-items)
