use Rattle.std.proofs.Common.{◌≡◌, ◌-◌, ◌++◌}
use Rattle.cs_modules.specs.Digits.{binary_digits, binary_digits_within}
use Rattle.cs_modules.proofs.digits.binary_digits.Given as goal

abbrev pub invariant-loop-place : goal.invariant-loop-place
invariant-loop-place l = l.digits.items ++ binary_digits_within (128 - l._place) l.rest ≡ binary_digits l.number
