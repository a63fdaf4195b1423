use Rattle.std.proofs.Common.{◌≡◌, ◌++◌, drop}
use Rattle.std.specs.List.{flat_map}
use Rattle.cs_conditions.specs.InitialNumbers.{numbers_given}
use Rattle.cs_conditions.proofs.starts.numbers_given.Given as goal

abbrev pub invariant-loop-net : goal.invariant-loop-net
invariant-loop-net l = l.numbers.items ++ flat_map (numbers_given l.value) (drop l.net-index l.nets) ≡ flat_map (numbers_given l.value) l.nets
