-- The names of memory cells.
use Rattle.std.proofs.Common.{◌≡◌, ◌++◌, drop, map}
use Rattle.cs_images.specs.Names.{memory_names}
use Rattle.cs_images.proofs.names.memory_names.Given as goal

-- those so far, and then those of the cells that are left
abbrev pub invariant-loop-cell : goal.invariant-loop-cell
invariant-loop-cell l =
    map (λ n. n.now) l.names.items ++ memory_names (drop l.cell-index l.cells) ≡ memory_names l.cells
