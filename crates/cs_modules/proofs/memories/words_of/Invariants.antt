use Rattle.std.proofs.Common.{◌≡◌, map}
use Rattle.cs_modules.specs.Digits.{is_one}
use Rattle.cs_modules.specs.Pins.{count_from}
use Rattle.cs_modules.proofs.memories.words_of.Given as goal

abbrev pub invariant-loop-i : goal.invariant-loop-i
invariant-loop-i l = l.bits.items ≡ map (is_one l.digits) (count_from 0 l.i)
