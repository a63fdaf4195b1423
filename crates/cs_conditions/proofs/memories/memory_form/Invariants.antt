use Rattle.std.proofs.Common.{◌≡◌, None, drop, find, not}
use Rattle.cs_conditions.specs.Conditions.{is_misformed}
use Rattle.cs_modules.specs.Modules.{cells_in}
use Rattle.cs_modules.specs.Pins.{has_right_pins}
use Rattle.cs_conditions.proofs.memories.memory_form.Given as goal

-- the first such memory is among the cells that are left, and these have their pins
abbrev pub invariant-loop-cell : goal.invariant-loop-cell
invariant-loop-cell l =
    (find (is_misformed l.top) (cells_in (drop l.cell-index l.cell-items))
    ≡ find (is_misformed l.top) (cells_in l.cell-items))
    × (find (λ cell. not (has_right_pins cell)) (cells_in (drop l.cell-index l.cell-items)) ≡ None)
