-- Both clauses are lemmas.
use Rattle.cs_rup.proofs.Derivations.{rup_true, no_model}
use Rattle.cs_rup.proofs.laws.no_model.Goals as goal

pub returns-clause-line : goal.returns-clause-line
returns-clause-line c clauses line a rup holds = rup_true a clauses line rup holds

pub returns-clause-formula : goal.returns-clause-formula
returns-clause-formula c f lines a is = no_model f lines is a
