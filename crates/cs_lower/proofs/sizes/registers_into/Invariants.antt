-- What is counted and what is left make the whole.
use Rattle.std.proofs.Common.{◌≡◌, ◌+◌, ◌-◌, ◌^◌, ◌≤◌, Some, drop, map, min}
use Rattle.std.specs.List.{sum_by}
use Rattle.cs_graph.specs.Draft.{registers}
use Rattle.cs_lower.specs.Lowered.{source_of}
use Rattle.cs_lower.proofs.sizes.registers_into.Given as goal

abbrev pub invariant-loop-tap : goal.invariant-loop-tap
invariant-loop-tap l =
    (min (l.count + sum_by registers (map (λ t. Some (source_of l.plan t)) (drop l.tap-index l.pins))) (2 ^ 64 - 1)
    ≡ min (sum_by registers (map (λ t. Some (source_of l.plan t)) l.pins)) (2 ^ 64 - 1))
    × (l.count ≤ 2 ^ 64 - 1)
