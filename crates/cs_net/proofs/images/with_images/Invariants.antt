use Rattle.std.proofs.Common.{◌≡◌, ◌++◌, drop}
use Rattle.cs_net.specs.Contexts.{with_images}
use Rattle.cs_net.proofs.images.with_images.Given as goal

-- the memories so far, and those of the rest
abbrev pub invariant-loop-place : goal.invariant-loop-place
invariant-loop-place l =
    l.others ++ with_images l.k (drop l.place l.memories) (drop l.place l.entries) ≡ with_images l.k l.memories l.entries
