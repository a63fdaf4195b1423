-- What the pins that are left read comes behind what those so far read.
use Rattle.std.proofs.Common.{◌≡◌, ◌++◌, Some, drop, map}
use Rattle.std.specs.List.{AllByRecursion}
use Rattle.cs_lower.specs.Lowered.{source_of}
use Rattle.cs_lower.specs.Sizes.{HasIds}
use Rattle.cs_lower.proofs.plan.Plan.pins.Given as goal

abbrev pub invariant-loop-tap : goal.invariant-loop-tap
invariant-loop-tap l =
    (l.sources.items ++ map (λ t. Some (source_of l.self t)) (drop l.tap-index l.taps)
    ≡ map (λ t. Some (source_of l.self t)) l.taps)
    × AllByRecursion (λ t. HasIds (source_of l.self t)) (drop l.tap-index l.taps)
