-- All weights are multiples.
use Rattle.std.proofs.Common.{◌≤◌, length, arith}
use Rattle.cs_bank_tests.proofs.CheckLemmas.{slowed_by}
use Rattle.cs_bank_tests.proofs.checks.is_slowed.Goals as goal

pub returns : goal.returns
returns c =
    let all = c.loop-e-test.false in
    let count = c.edge_count-e-end.ensures in
    slowed_by c.args.contexts c.args.machine.now c.loop-e.e (omega (arith, all, count)) c.loop-e.invariant
