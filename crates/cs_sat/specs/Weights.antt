-- What rises as the search goes on: a weight of the trail in which one step counts for more than all steps of later levels.
use Rattle.std.specs.Prelude.{ℕ, zero, suc, ◌+◌, ◌*◌, ◌-◌, List, [], ◌∷◌}
use Rattle.cs_sat.specs.declared.trail.Step.{Step}

-- one more than the number of places, to some power
abbrev pub power : ℕ → ℕ → ℕ
power size zero = 1
power size (suc n) = size * power size n + power size n

-- what a step counts for, among so many places
abbrev pub step_weight : ℕ → Step → ℕ
step_weight size step = power size (size - step.level)

-- what all steps count for
abbrev pub weight : ℕ → List Step → ℕ
weight size [] = 0
weight size (step ∷ steps) = step_weight size step + weight size steps
