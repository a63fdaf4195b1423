-- The images of a memory, text by text.
use Rattle.std.proofs.Common.{◌≡◌, map, take}
use Rattle.cs_images.specs.Images.{image_bits}
use Rattle.cs_images.proofs.bits.images.Given as goal

-- those so far
abbrev pub invariant-loop-text : goal.invariant-loop-text
invariant-loop-text l = l.images ≡ map (image_bits l.words) (take l.text-index l.texts)
