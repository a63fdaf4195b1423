use Rattle.std.proofs.Common.{◌≡◌, ◌+◌, ◌≤◌, drop, map, min}
use Rattle.std.specs.Prelude.{sum}
use Rattle.cs_modules.specs.Memories.{shapes_in}
use Rattle.cs_net.specs.Accept.{read_bits}
use Rattle.cs_net.proofs.limits.all_read_bits.Given as goal

-- what is counted and what is left make the whole
abbrev pub invariant-loop-shape : goal.invariant-loop-shape
invariant-loop-shape l =
    (min (l.total + sum (map read_bits (shapes_in (drop l.shape-index l.shapes)))) 18446744073709551615
    ≡ min (sum (map read_bits (shapes_in l.shapes))) 18446744073709551615)
    × (l.total ≤ 18446744073709551615)
