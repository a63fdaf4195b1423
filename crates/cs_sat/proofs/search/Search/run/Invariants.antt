-- The search has its state.
use Rattle.cs_sat.specs.Searches.{IsSearch}
use Rattle.cs_sat.proofs.search.Search.run.Given as goal

abbrev pub invariant-loop : goal.invariant-loop
invariant-loop l = IsSearch l.f l.self
