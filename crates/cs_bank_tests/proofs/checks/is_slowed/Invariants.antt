-- The weights so far are multiples.
use Rattle.cs_bank_tests.proofs.CheckLemmas.{AreMultiples}
use Rattle.cs_bank_tests.proofs.checks.is_slowed.Given as goal

abbrev pub invariant-loop-e : goal.invariant-loop-e
invariant-loop-e l = AreMultiples l.fn.contexts l.machine.edges l.e
