-- The delays of all vertices.
use Rattle.std.proofs.Common.{◌≡◌, map, take}
use Rattle.cs_delay.specs.Assigned.{pin_delays, vertex_delay}
use Rattle.cs_delay.proofs.vertices.delays_of.Given as goal

-- those of the vertices so far
abbrev pub invariant-loop-v : goal.invariant-loop-v
invariant-loop-v l =
    (l.per_vertex ≡ map (λ x. vertex_delay l.table x.kind) (take l.v l.machine.vertices))
    × (l.per_pin ≡ map (pin_delays l.table) (take l.v l.machine.vertices))
