-- The names of images.
use Rattle.std.proofs.Common.{◌≡◌, map, take}
use Rattle.cs_images.proofs.names.image_names.Given as goal

-- those so far
abbrev pub invariant-loop-named : goal.invariant-loop-named
invariant-loop-named l = map (λ n. n.now) l.names.items ≡ map (λ n. n.name) (take l.named-index l.images)
