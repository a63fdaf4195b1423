use Rattle.std.proofs.Common.{◌≡◌, drop, length}
use Rattle.std.specs.List.{enumerate_from}
use Rattle.cs_lower.specs.Cells.{held_parts}
use Rattle.cs_lower.specs.Taps.{both, in_turn}
use Rattle.cs_lower.proofs.memories.push_held_bits.Given as goal

-- the registers that are left come behind those that are pushed
abbrev pub invariant-loop-place : goal.invariant-loop-place
invariant-loop-place l =
    let parts = held_parts l.net l.memory.cell.now l.memory.shape.now (l.port, l.read) l.vertex in
    both l.parts (in_turn parts (length l.parts.pieces) (enumerate_from l.place (drop l.place l.bits)))
    ≡ both l.fn.parts (in_turn parts (length l.fn.parts.pieces) (enumerate_from 0 l.bits))
