use Rattle.std.proofs.Common.{[]}
use Rattle.cs_graph.proofs.Pasts.{fewer, fewer_is}
use Rattle.cs_graph.proofs.StartsAndPasts.{start_of_past, past_of_start}
use Rattle.cs_graph.proofs.PastsOfContexts.{past_of_contexts, contexts_of_past}
use Rattle.cs_graph.proofs.LagLemmas.{reach_of}
use Rattle.cs_graph.proofs.laws.starts.Goals as goal

pub returns-clause-exactly : goal.returns-clause-exactly
returns-clause-exactly c = λ mode lags legal. let reach = reach_of lags in (
  λ start. past_of_start c.args.machine.now c.keeps.ensures.well_formed mode lags legal reach.0 reach.1 start [],
  λ past. start_of_past c.args.machine.now c.keeps.ensures.well_formed mode lags legal reach.0 reach.1 past,
)

pub returns-clause-pass : goal.returns-clause-pass
returns-clause-pass c = λ lags lags' smaller p. record {
  past = fewer c.args.machine.now lags lags' smaller
      p.past p.is;
  is = fewer_is c.args.machine.now lags lags' smaller p.past p.is;
}

pub returns-clause-by_context : goal.returns-clause-by_context
returns-clause-by_context c = λ lags count some slowed. (
  λ past k low. contexts_of_past c.args.machine.now
      lags count k past,
  λ each. past_of_contexts c.args.machine.now lags count some slowed each,
)
