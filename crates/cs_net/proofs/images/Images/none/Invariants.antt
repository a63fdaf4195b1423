use Rattle.std.proofs.Common.{◌≡◌, ◌++◌, None, drop, map}
use Rattle.cs_net.proofs.images.Images.none.Given as goal

abbrev pub invariant-loop-memory : goal.invariant-loop-memory
invariant-loop-memory l = l.of ++ map (λ m. None) (drop l._memory-index l._memory-items) ≡ map (λ m. None) l._memory-items
