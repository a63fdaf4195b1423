use Rattle.cs_lower.specs.Cells.{write_piece}
use Rattle.cs_lower.proofs.PushedParts.{piece_pushed}
use Rattle.cs_lower.proofs.memories.push_writes.Goals as goal

pub loop-port-preserved : goal.loop-port-preserved
loop-port-preserved c =
    let memory = c.args.memory.now in
    piece_pushed (write_piece memory.id memory.cell.now memory.shape.now) c.loop-port.port c.in_ok-piece.piece c.args.parts.now
    c.loop-port.parts c.push.new.self c.in_ok-piece.ensures c.loop-port.invariant c.in_ok-push.ensures.pushed
