use Rattle.std.proofs.Common.{◌≡◌, ◌++◌, None, drop, find, map, not}
use Rattle.cs_modules.specs.Memories.{shape_of}
use Rattle.cs_modules.specs.Modules.{cells_in}
use Rattle.cs_modules.specs.Pins.{has_right_pins}
use Rattle.cs_net.proofs.memories.shapes.Given as goal

abbrev pub invariant-loop-cell : goal.invariant-loop-cell
invariant-loop-cell l =
    (l.shapes ++ map shape_of (cells_in (drop l.cell-index l.cell-items)) ≡ map shape_of (cells_in l.cell-items))
    × (find (λ cell. not (has_right_pins cell)) (cells_in (drop l.cell-index l.cell-items)) ≡ None)
