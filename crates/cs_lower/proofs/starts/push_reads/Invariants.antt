use Rattle.std.proofs.Common.{◌≡◌, ◌++◌, drop}
use Rattle.cs_lower.proofs.StartLemmas.{reads_from}
use Rattle.cs_lower.proofs.starts.push_reads.Given as goal

-- the starts of the ports that are left come after those that are pushed
abbrev pub invariant-loop-port : goal.invariant-loop-port
invariant-loop-port l =
    l.values.items ++ reads_from l.cell l.shape l.port (drop l.port l.read-items)
    ≡ l.fn.values.items ++ reads_from l.cell l.shape 0 l.read-items
