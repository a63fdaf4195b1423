use Rattle.std.proofs.Common.{◌≡◌, ◌++◌, drop}
use Rattle.cs_modules.specs.PinBits.{bits_of_cells_from, bits_of_cells}
use Rattle.cs_modules.proofs.connection.bits_of_cells.Given as goal

abbrev pub invariant-loop-i : goal.invariant-loop-i
invariant-loop-i l = l.bits.items ++ bits_of_cells_from l.i (drop l.i l.cells) ≡ bits_of_cells l.cells
