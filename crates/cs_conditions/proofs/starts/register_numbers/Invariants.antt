use Rattle.std.proofs.Common.{◌≡◌, ◌++◌, drop}
use Rattle.cs_conditions.specs.InitialNumbers.{register_numbers_of}
use Rattle.cs_conditions.proofs.starts.register_numbers.Given as goal

abbrev pub invariant-loop-cell : goal.invariant-loop-cell
invariant-loop-cell l = l.numbers.items ++ register_numbers_of (drop l.cell-index l.cells) ≡ register_numbers_of l.cells
