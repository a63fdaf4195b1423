-- The search has its state, and each step makes its trail heavier.
use Rattle.std.proofs.Common.{◌+◌, ◌-◌}
use Rattle.cs_sat.specs.Weights.{power}
use Rattle.cs_sat.specs.Searches.{IsSearch, weight_of}
use Rattle.cs_sat.proofs.search.Search.run_on.Given as goal

abbrev pub invariant-loop-end : goal.invariant-loop-end
invariant-loop-end l = IsSearch l.f l.self

abbrev pub decreases-loop-end : goal.decreases-loop-end
decreases-loop-end l = power (l.f.vars + 1) (l.f.vars + 1 + 1) - weight_of l.f l.self
