use Rattle.std.proofs.Common.{◌≡◌, ◌++◌, drop}
use Rattle.std.specs.Prelude.{filter}
use Rattle.cs_prefix.specs.Layers.{goes_on}
use Rattle.cs_prefix.proofs.layers.going_on.Given as goal

abbrev pub invariant-loop-edge : goal.invariant-loop-edge
invariant-loop-edge l =
    l.found ++ filter (goes_on l.contents l.level l.start) (drop l.edge-index l.edges)
    ≡ filter (goes_on l.contents l.level l.start) l.edges
