-- The digit is one of the number halved so often.
use Rattle.std.proofs.Common.{◌≡◌, ◌-◌}
use Rattle.cs_bank.specs.ContextBits.{digit}
use Rattle.cs_bank.proofs.context_bits.digit.Given as goal

abbrev pub invariant-loop : goal.invariant-loop
invariant-loop l = digit l.j l.number ≡ digit (l.j - l.counter) l.rest
