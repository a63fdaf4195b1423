-- So many lists are made, each empty.
use Rattle.std.proofs.Common.{◌≡◌, ℕ, [], length}
use Rattle.cs_rup.specs.Stores.{list_at}
use Rattle.cs_rup.proofs.store.empty_lists.Given as goal

abbrev pub invariant-loop : goal.invariant-loop
invariant-loop l = record {
  count : length l.lists.items ≡ l.counter;
  empty : (index : ℕ) → list_at l.lists.items index ≡ [];
}
