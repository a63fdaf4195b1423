use Rattle.std.proofs.Common.{◌≡◌, ◌++◌, drop, map}
use Rattle.std.specs.List.{enumerate_from}
use Rattle.cs_net.specs.Elements.{read_element}
use Rattle.cs_net.proofs.elements.push_read_ports.Given as goal

-- the read ports that are left come after those that are pushed
abbrev pub invariant-loop-port : goal.invariant-loop-port
invariant-loop-port l =
    l.elements ++ map (read_element l.place l.cell l.shape) (enumerate_from l.port (drop l.port l.read-items))
    ≡ l.fn.elements ++ map (read_element l.place l.cell l.shape) (enumerate_from 0 l.read-items)
