use Rattle.std.proofs.Common.{◌≡◌, drop, length}
use Rattle.cs_prefix.specs.Layers.{set_all}
use Rattle.cs_prefix.proofs.layers.end_at.Given as goal

-- the edges that are left are set behind those that are
abbrev pub invariant-loop-edge : goal.invariant-loop-edge
invariant-loop-edge l =
    (set_all l.ends (drop l.edge-index l.edges) l.place ≡ set_all l.fn.ends l.edges l.place)
    × (length l.ends ≡ length l.fn.ends)
