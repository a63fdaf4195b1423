-- So many lists are made.
use Rattle.std.proofs.Common.{◌≡◌, [], replicate}
use Rattle.cs_paths.proofs.guide.empty_lists.Given as goal

abbrev pub invariant-loop : goal.invariant-loop
invariant-loop l = l.lists.items ≡ replicate l.counter []
