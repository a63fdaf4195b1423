use Rattle.std.proofs.Common.{◌≡◌, drop, find, nat_lt}
use Rattle.cs_modules.specs.Memories.{shapes_in}
use Rattle.cs_net.proofs.limits.wide_address.Given as goal

abbrev pub invariant-loop-shape : goal.invariant-loop-shape
invariant-loop-shape l =
    find (λ shape. nat_lt 20 shape.abits) (shapes_in (drop l.shape-index l.shapes))
    ≡ find (λ shape. nat_lt 20 shape.abits) (shapes_in l.shapes)
