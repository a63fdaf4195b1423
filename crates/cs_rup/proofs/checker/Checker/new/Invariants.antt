-- The clauses so far are kept.
use Rattle.std.proofs.Common.{◌≡◌, take}
use Rattle.cs_rup.proofs.checker.Checker.new.Given as goal

abbrev pub invariant-loop-clause : goal.invariant-loop-clause
invariant-loop-clause l = l.checker ≡ take l.clause-index l.clause-items
