use Rattle.std.proofs.Common.{◌≡◌, take}
use Rattle.cs_conditions.specs.Conditions.{least}
use Rattle.cs_conditions.proofs.numbers.least_of.Given as goal

abbrev pub invariant-loop-number : goal.invariant-loop-number
invariant-loop-number l = l.found ≡ least (take l.number-index l.numbers)
