-- The earliest type that lacks a delay, from the last vertex to the first.
use Rattle.std.proofs.Common.{◌≡◌, ◌≤◌, length, drop, option_map}
use Rattle.cs_delay.specs.Assigned.{missing_of}
use Rattle.cs_delay.proofs.missing.missing.Given as goal

-- that of the vertices from v on
abbrev pub invariant-loop-v : goal.invariant-loop-v
invariant-loop-v l =
    (l.v ≤ length l.machine.vertices)
    × (option_map (λ name. name.now) l.first ≡ missing_of l.table (drop l.v l.machine.vertices))

abbrev pub decreases-loop-v : goal.decreases-loop-v
decreases-loop-v l = l.v
