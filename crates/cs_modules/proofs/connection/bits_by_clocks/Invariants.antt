use Rattle.std.proofs.Common.{◌≡◌, ◌++◌, drop}
use Rattle.std.specs.List.{flat_map}
use Rattle.cs_modules.specs.PinBits.{bits_of_pin, bits_of_cell}
use Rattle.cs_modules.proofs.connection.bits_by_clocks.Given as goal

abbrev pub invariant-loop-pin : goal.invariant-loop-pin
invariant-loop-pin l = l.bits.items ++ flat_map (bits_of_pin l.i l.cell) (drop l.pin-index l.cell.pins) ≡ bits_of_cell l.i l.cell
