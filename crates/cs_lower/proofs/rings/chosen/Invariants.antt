use Rattle.std.proofs.Common.{◌≡◌, nat_eq, filter, take}
use Rattle.indexmap.specs.IndexSet.{contains}
use Rattle.cs_lower.proofs.rings.chosen.Given as goal

-- those among the numbers so far
abbrev pub invariant-loop-number : goal.invariant-loop-number
invariant-loop-number l = l.chosen.items ≡ filter (contains nat_eq l.set) (take l.number-index l.numbers)
