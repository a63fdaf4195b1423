-- Both clauses are lemmas.
use Rattle.cs_diff.proofs.LatticeLemmas.{least_solves, greatest_solves}
use Rattle.cs_diff.proofs.laws.lattice.Goals as goal

pub returns-clause-least : goal.returns-clause-least
returns-clause-least c = least_solves

pub returns-clause-greatest : goal.returns-clause-greatest
returns-clause-greatest c = greatest_solves
