-- None of the pins so far needs the constant.
use Rattle.std.proofs.Common.{◌≡◌, drop}
use Rattle.std.specs.List.{list_any}
use Rattle.cs_lower.specs.Lowered.{needs_constant, trail_of}
use Rattle.cs_lower.proofs.plan.some_needs.Given as goal

abbrev pub invariant-loop-tap : goal.invariant-loop-tap
invariant-loop-tap l =
    list_any (λ t. needs_constant l.value (trail_of l.trails t)) (drop l.tap-index l.pins)
    ≡ list_any (λ t. needs_constant l.value (trail_of l.trails t)) l.pins
