-- The images of each memory, in order.
use Rattle.std.proofs.Common.{◌≡◌, map, take}
use Rattle.cs_images.specs.Images.{images_of}
use Rattle.cs_images.proofs.entries.entries.Given as goal

-- those so far
abbrev pub invariant-loop-memory : goal.invariant-loop-memory
invariant-loop-memory l = l.entries ≡ map (images_of l.named) (take l.memory-index l.memories)
