use Rattle.std.proofs.Common.{◌≡◌, drop}
use Rattle.std.specs.List.{enumerate_from}
use Rattle.cs_lower.specs.Cells.{read_wires}
use Rattle.cs_lower.specs.Taps.{both}
use Rattle.cs_lower.proofs.memories.drive_data.Given as goal

-- the data bits that are left are driven behind those that are
abbrev pub invariant-loop-place : goal.invariant-loop-place
invariant-loop-place l =
    both l.parts (read_wires l.vertex (enumerate_from l.place (drop l.place l.bits)))
    ≡ both l.fn.parts (read_wires l.vertex (enumerate_from 0 l.bits))
