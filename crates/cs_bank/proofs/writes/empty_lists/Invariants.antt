-- So many empty lists so far.
use Rattle.std.proofs.Common.{◌≡◌, [], replicate}
use Rattle.cs_bank.proofs.writes.empty_lists.Given as goal

abbrev pub invariant-loop : goal.invariant-loop
invariant-loop l = l.lists.items ≡ replicate l.counter []
