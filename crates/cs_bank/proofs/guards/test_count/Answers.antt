-- The next digit is 1 or 0.
use Rattle.cs_bank.specs.ContextBits.{digits}
use Rattle.cs_bank.specs.Guards.{test_count}
use Rattle.cs_bank.proofs.CodeLemmas.{test_count_found, test_count_goes_on}
use Rattle.cs_bank.proofs.guards.test_count.Goals as goal

pub returns-then-rest-eq1-clause-count : goal.returns-then-rest-eq1-clause-count
returns-then-rest-eq1-clause-count c =
    test_count_found c.args.address_bits c.loop-place.place c.loop-place.rest
    (test_count (digits c.args.address_bits c.args.size)) c.loop-place-test.true c.if-rest-eq1.true
    c.loop-place.invariant

pub loop-place-preserved : goal.loop-place-preserved
loop-place-preserved c =
    test_count_goes_on c.args.address_bits c.loop-place.place c.loop-place.rest
    (test_count (digits c.args.address_bits c.args.size)) c.loop-place-test.true c.if-rest-eq1.false
    c.loop-place.invariant
