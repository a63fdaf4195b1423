use Rattle.std.proofs.Common.{◌≡◌, ◌+◌, ◌*◌, map}
use Rattle.cs_modules.specs.Digits.{is_one}
use Rattle.cs_modules.specs.Pins.{count_from}
use Rattle.cs_modules.proofs.memories.digits_part.Given as goal

abbrev pub invariant-loop-j : goal.invariant-loop-j
invariant-loop-j l = l.part ≡ map (λ j. is_one l.digits (l.i * l.width + j)) (count_from 0 l.j)
