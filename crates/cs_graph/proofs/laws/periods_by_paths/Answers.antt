use Rattle.cs_graph.proofs.PeriodsByPaths.{within_exactly, period_exactly, period_delay}
use Rattle.cs_graph.proofs.laws.periods_by_paths.Goals as goal

pub returns-clause-within : goal.returns-clause-within
returns-clause-within c = λ g delays mode lags bound whole legal. within_exactly g whole mode lags legal delays bound

pub returns-clause-at_most : goal.returns-clause-at_most
returns-clause-at_most c = λ g delays mode lags period bound whole legal is. period_exactly g whole mode lags legal
    delays period bound is

pub returns-clause-is_delay : goal.returns-clause-is_delay
returns-clause-is_delay c = λ g delays mode lags period whole legal some is. period_delay g whole mode lags legal
    delays period some is
