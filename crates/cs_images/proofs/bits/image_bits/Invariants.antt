-- The bits of an image, one after the other.
use Rattle.std.proofs.Common.{◌≡◌, map}
use Rattle.cs_modules.specs.Digits.{is_one}
use Rattle.cs_modules.specs.Pins.{count_from}
use Rattle.cs_images.proofs.bits.image_bits.Given as goal

-- those so far
abbrev pub invariant-loop-digit : goal.invariant-loop-digit
invariant-loop-digit l = l.bits.items ≡ map (is_one l.digits.items) (count_from 0 l.digit)
