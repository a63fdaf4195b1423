-- The digits so far are 0.
use Rattle.std.proofs.Common.{◌≡◌, ◌-◌}
use Rattle.cs_bank.specs.ContextBits.{digits}
use Rattle.cs_bank.specs.Guards.{test_count}
use Rattle.cs_bank.proofs.guards.test_count.Given as goal

abbrev pub invariant-loop-place : goal.invariant-loop-place
invariant-loop-place l =
    test_count (digits (l.address_bits - l.place) l.rest) ≡ test_count (digits l.address_bits l.size)
