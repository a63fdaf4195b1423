use Rattle.cs_graph.proofs.PastsOfContexts.{at_context, at_contexts, join, part_of_joined}
use Rattle.cs_graph.proofs.laws.pasts_by_context.Goals as goal

pub returns-clause-one : goal.returns-clause-one
returns-clause-one c = λ g lags count past some. (
  λ is k low. at_context g lags count k past is,
  λ each. at_contexts g lags count past some each,
)

pub returns-clause-joined : goal.returns-clause-joined
returns-clause-joined c = λ g lags count pasts some slowed. (
  λ is k low. part_of_joined g lags count some slowed pasts is k low,
  λ each. join g lags count some slowed pasts each,
)
