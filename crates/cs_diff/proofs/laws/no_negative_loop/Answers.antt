-- A loop below 0 refutes every solution, and without one relaxation ends at a solution.
use Rattle.cs_diff.proofs.DecideLemmas.{solution_exists}
use Rattle.cs_diff.proofs.SolveLemmas.{no_solution}
use Rattle.cs_diff.proofs.laws.no_negative_loop.Goals as goal

pub returns : goal.returns
returns c s = (λ some places loop. no_solution s places some loop, λ none. solution_exists s none)
