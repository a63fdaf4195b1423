use Rattle.std.proofs.Common.{◌≡◌, drop, length}
use Rattle.std.specs.List.{enumerate_from}
use Rattle.cs_lower.specs.Cells.{read_parts}
use Rattle.cs_lower.specs.Taps.{both, in_turn}
use Rattle.cs_lower.proofs.memories.push_reads.Given as goal

-- the read ports that are left come behind those that are pushed
abbrev pub invariant-loop-port : goal.invariant-loop-port
invariant-loop-port l =
    let parts = read_parts l.net l.memory.id l.memory.cell.now l.memory.shape.now in
    both l.parts (in_turn parts (length l.parts.pieces) (enumerate_from l.port (drop l.port l.read-items)))
    ≡ both l.fn.parts (in_turn parts (length l.fn.parts.pieces) (enumerate_from 0 l.read-items))
