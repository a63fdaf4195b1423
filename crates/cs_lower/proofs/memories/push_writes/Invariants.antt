use Rattle.std.proofs.Common.{◌≡◌, map}
use Rattle.cs_modules.specs.Pins.{count_from}
use Rattle.cs_lower.specs.Cells.{write_piece}
use Rattle.cs_lower.specs.Taps.{with_pieces}
use Rattle.cs_lower.proofs.memories.push_writes.Given as goal

abbrev pub invariant-loop-port : goal.invariant-loop-port
invariant-loop-port l =
    l.parts ≡ with_pieces l.fn.parts (map (write_piece l.memory.id l.memory.cell.now l.memory.shape.now) (count_from 0 l.port))
