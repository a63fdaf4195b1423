use Rattle.std.proofs.Common.{nat_eq, take}
use Rattle.indexmap.specs.IndexSet.{contains}
use Rattle.cs_lower.proofs.SearchLemmas.{IsSearchedFor}
use Rattle.cs_lower.proofs.rings.ring_set.Given as goal

-- what is met from the bits so far is found
abbrev pub invariant-loop-bit : goal.invariant-loop-bit
invariant-loop-bit l =
    IsSearchedFor l.wires l.passed (contains nat_eq l.least) (take l.bit-index l.numbers)
