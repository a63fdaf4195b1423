use Rattle.cs_run.proofs.StopLemmas.{net_stop}
use Rattle.cs_run.proofs.netlists.read_net.Goals as goal

pub returns-in-Err-clause-err : goal.returns-in-Err-clause-err
returns-in-Err-clause-err c = net_stop c.args.doc.now c.in-Err.error c.stop_at.result c.in-Err.ensures.refuses c.stop_at.ensures
