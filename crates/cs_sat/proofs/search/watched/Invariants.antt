-- There are no lines.
use Rattle.std.proofs.Common.{◌≡◌, []}
use Rattle.cs_sat.proofs.search.watched.Given as goal

abbrev pub invariant-loop-clause : goal.invariant-loop-clause
invariant-loop-clause l = l.store.lines ≡ []
