use Rattle.std.proofs.Common.{◌≡◌, ◌++◌, drop}
use Rattle.std.specs.List.{enumerate_from}
use Rattle.cs_lower.proofs.DrivenLemmas.{data_of}
use Rattle.cs_lower.proofs.driven.push_read_data.Given as goal

-- the data bits of the ports that are left come after those that are pushed
abbrev pub invariant-loop-port : goal.invariant-loop-port
invariant-loop-port l =
    l.signals.items ++ data_of l.cell l.shape (enumerate_from l.port (drop l.port l.items))
    ≡ l.fn.signals.items ++ data_of l.cell l.shape (enumerate_from 0 l.items)
