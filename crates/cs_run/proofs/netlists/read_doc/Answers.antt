use Rattle.std.proofs.Common.{ap, subst}
use Rattle.std.specs.Prelude.{Err}
use Rattle.cs_run.specs.Reasons.{StopsAt}
use Rattle.cs_run.proofs.StopLemmas.{doc_stop}
use Rattle.cs_run.proofs.netlists.read_doc.Goals as goal

pub returns-in-Err-clause-err : goal.returns-in-Err-clause-err
returns-in-Err-clause-err c =
    doc_stop c.args.bytes.now c.in-Err.error c.stop_at.result
    (λ is. c.in-Err.ensures.not_json (ap Err is))
    (λ at is. c.in-Err.ensures.bad_shape at (ap Err is))
    (subst (λ f. StopsAt f c.stop_at.result) c.doc_fault.ensures c.stop_at.ensures)
