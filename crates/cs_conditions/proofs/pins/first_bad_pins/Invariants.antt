use Rattle.std.proofs.Common.{◌≡◌, drop, find, not}
use Rattle.cs_modules.specs.Modules.{cells_in}
use Rattle.cs_modules.specs.Pins.{has_right_pins}
use Rattle.cs_conditions.proofs.pins.first_bad_pins.Given as goal

-- the first such cell is among those that are left
abbrev pub invariant-loop-cell : goal.invariant-loop-cell
invariant-loop-cell l =
    find (λ cell. not (has_right_pins cell)) (cells_in (drop l.cell-index l.cells))
    ≡ find (λ cell. not (has_right_pins cell)) (cells_in l.cells)
