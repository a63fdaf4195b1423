use Rattle.std.proofs.Common.{◌≡◌, ◌+◌, ◌≤◌, None, drop, find, map, min, nat_lt}
use Rattle.std.specs.Prelude.{sum}
use Rattle.cs_modules.specs.Memories.{shapes_in}
use Rattle.cs_net.specs.Accept.{memory_bits}
use Rattle.cs_net.proofs.limits.all_memory_bits.Given as goal

-- what is counted and what is left make the whole
abbrev pub invariant-loop-shape : goal.invariant-loop-shape
invariant-loop-shape l =
    (min (l.total + sum (map memory_bits (shapes_in (drop l.shape-index l.shapes)))) 18446744073709551615
    ≡ min (sum (map memory_bits (shapes_in l.shapes))) 18446744073709551615)
    × (l.total ≤ 18446744073709551615)
    × (find (λ shape. nat_lt 20 shape.abits) (shapes_in (drop l.shape-index l.shapes)) ≡ None)
