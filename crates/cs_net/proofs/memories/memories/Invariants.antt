use Rattle.std.proofs.Common.{◌≡◌, ◌++◌, None, drop, filter_map, find, map, nat_lt, not}
use Rattle.cs_modules.specs.Memories.{shapes_in, shape_of}
use Rattle.cs_net.specs.Build.{words_by}
use Rattle.cs_modules.specs.Modules.{cells_in}
use Rattle.cs_modules.specs.Pins.{has_right_pins, class_at}
use Rattle.cs_net.proofs.memories.memories.Given as goal

abbrev pub invariant-loop-cell : goal.invariant-loop-cell
invariant-loop-cell l =
    (l.memories ++ filter_map (λ cell. words_by (class_at cell) cell) (cells_in (drop l.cell-index l.cell-items))
    ≡ filter_map (λ cell. words_by (class_at cell) cell) (cells_in l.cell-items))
    × (find (λ cell. not (has_right_pins cell)) (cells_in (drop l.cell-index l.cell-items)) ≡ None)
    × (find (λ shape. nat_lt 20 shape.abits) (shapes_in (map shape_of (cells_in (drop l.cell-index l.cell-items)))) ≡ None)
