use Rattle.std.proofs.Common.{ap, subst}
use Rattle.std.specs.Prelude.{Err}
use Rattle.cs_run.specs.Reasons.{StopsAt}
use Rattle.cs_run.proofs.StartLemmas.{images_stop}
use Rattle.cs_run.proofs.starts.read_starts.Goals as goal

pub returns-in-Err-clause-err : goal.returns-in-Err-clause-err
returns-in-Err-clause-err c =
    images_stop c.args.contexts c.args.net.now c.args.bytes.now c.in-Err.error c.stop_at.result (record {
      not_json = λ is. c.in-Err.ensures.not_json (ap Err is);
      bad_shape = λ at is. c.in-Err.ensures.bad_shape at (ap Err is);
      no_memory_cell = λ name is. c.in-Err.ensures.no_memory_cell name (ap Err is);
      count = λ name found is. c.in-Err.ensures.count name found (ap Err is);
    })
    (subst (λ f. StopsAt f c.stop_at.result) c.images_fault.ensures c.stop_at.ensures)
