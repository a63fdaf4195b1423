-- Codes in order.
use Rattle.std.proofs.Common.{ℕ, List}
use Rattle.std.specs.List.Sorted.{IsNonDecreasing, IsSortedByKey}
use Rattle.std.specs.Ordering.{nat_cmp}
use Rattle.std.proofs.lemmas.List.Sorted.{IsNonDecreasingBy-from_sort}

pub rising_of_sort : (xs : List ℕ) → IsSortedByKey (λ x. x) nat_cmp xs → IsNonDecreasing xs
rising_of_sort xs sorted = IsNonDecreasingBy-from_sort (λ x. x) xs sorted
