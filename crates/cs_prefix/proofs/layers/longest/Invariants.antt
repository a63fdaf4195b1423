use Rattle.std.proofs.Common.{◌≡◌, drop}
use Rattle.cs_prefix.specs.Layers.{longest_from}
use Rattle.cs_prefix.proofs.layers.longest.Given as goal

abbrev pub invariant-loop-edge : goal.invariant-loop-edge
invariant-loop-edge l =
    longest_from l.contents l.most (drop l.edge-index l.edges) ≡ longest_from l.contents 0 l.edges
