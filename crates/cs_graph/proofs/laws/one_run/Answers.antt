use Rattle.cs_graph.proofs.Runs.{one_run, one_run_on}
use Rattle.cs_graph.proofs.laws.one_run.Goals as goal

pub returns-clause-clocks : goal.returns-clause-clocks
returns-clause-clocks c = λ bounded g clocks row whole. one_run g whole bounded clocks row

pub returns-clause-for_ever : goal.returns-clause-for_ever
returns-clause-for_ever c = λ bounded g row whole. one_run_on g whole bounded row
