use Rattle.std.proofs.Common.{◌≡◌, drop, fold}
use Rattle.std.specs.List.{enumerate_from}
use Rattle.cs_sim.specs.Layout.{with_read}
use Rattle.cs_sim.proofs.layout.Layout.push_reads.Given as goal

abbrev pub invariant-loop-port : goal.invariant-loop-port
invariant-loop-port l =
    fold (with_read l.wiring.driven l.memory l.cell l.shape) l.self (enumerate_from l.port (drop l.port l.read-items))
    ≡ fold (with_read l.wiring.driven l.memory l.cell l.shape) l.fn.self (enumerate_from 0 l.read-items)
