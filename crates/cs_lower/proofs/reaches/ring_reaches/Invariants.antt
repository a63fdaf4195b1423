use Rattle.std.proofs.Common.{◌≡◌, ◌+◌, ◌==◌, ℕ, drop, option_map}
use Rattle.std.specs.List.{position_from}
use Rattle.std.specs.Option.{option_or}
use Rattle.cs_lower.specs.Reaches.{at_once, ring_reach}
use Rattle.cs_lower.specs.declared.taps.End.TheVariants.{Vertex as at_vertex}
use Rattle.cs_lower.specs.Tables.{held}
use Rattle.cs_lower.proofs.reaches.ring_reaches.Given as goal

-- a bit without a buffer so far has one among those that are left
abbrev pub invariant-loop-place : goal.invariant-loop-place
invariant-loop-place l = (b : ℕ) →
    option_or (held l.table b)
    (option_map (λ i. at_once (at_vertex (l.first_buffer + i) 0)) (position_from (λ r. r == b) l.place (drop l.place l.bits)))
    ≡ ring_reach l.first_buffer l.bits b
