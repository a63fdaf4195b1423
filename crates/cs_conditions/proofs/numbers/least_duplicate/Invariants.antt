use Rattle.std.proofs.Common.{◌≡◌, ℕ, take, nat_eq}
use Rattle.std.specs.Prelude.{◌==◌}
use Rattle.std.specs.List.{list_any}
use Rattle.indexmap.specs.IndexSet.{contains}
use Rattle.cs_conditions.specs.Conditions.{duplicates, least}
use Rattle.cs_conditions.proofs.numbers.least_duplicate.Given as goal

abbrev pub invariant-loop-number : goal.invariant-loop-number
invariant-loop-number l = record {
  seen : (b : ℕ) → contains nat_eq l.seen b ≡ list_any (λ a. a == b) (take l.number-index l.numbers);
  found : l.least ≡ least (duplicates (take l.number-index l.numbers));
}
