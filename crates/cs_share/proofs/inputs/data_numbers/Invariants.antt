use Rattle.std.proofs.Common.{◌≡◌, ◌+◌, ◌++◌, drop}
use Rattle.cs_share.specs.Inputs.{data_among}
use Rattle.cs_share.proofs.inputs.data_numbers.Given as goal

abbrev pub invariant-loop-i : goal.invariant-loop-i
invariant-loop-i l = l.numbers.items ++ data_among l.clock (l.i + 2) (drop l.i l.inputs) ≡ data_among l.clock 2 l.inputs
