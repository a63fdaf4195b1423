use Rattle.cs_graph.proofs.Shifted.{retimed_whole}
use Rattle.cs_graph.proofs.LagLemmas.{reach_of}
use Rattle.cs_graph.proofs.laws.retimed_graphs.Goals as goal

pub returns : goal.returns
returns c = λ g mode lags k whole legal lengths. let reach = reach_of lags in retimed_whole g whole mode lags
    legal reach.0 reach.1 k lengths.each
