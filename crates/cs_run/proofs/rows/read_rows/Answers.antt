use Rattle.std.proofs.Common.{subst}
use Rattle.cs_stream.specs.Reading.{fault_of as stimulus_fault}
use Rattle.cs_run.specs.Reasons.{StopsAt}
use Rattle.cs_run.proofs.StopLemmas.{rows_stop}
use Rattle.cs_run.proofs.rows.read_rows.Goals as goal

pub returns-in-Err-clause-err : goal.returns-in-Err-clause-err
returns-in-Err-clause-err c =
    rows_stop (stimulus_fault c.args.width c.args.bytes.now) c.in-Err.error c.stop_at.result c.in-Err.ensures.err (subst (λ f. StopsAt f c.stop_at.result) c.rows_fault.ensures c.stop_at.ensures)
