use Rattle.std.proofs.Common.{subst}
use Rattle.cs_run.specs.Inputs.{all_bytes}
use Rattle.cs_run.specs.Mix.{mix_fault}
use Rattle.cs_run.specs.Reasons.{StopsAt}
use Rattle.cs_run.proofs.StopLemmas.{rows_stop}
use Rattle.cs_run.proofs.mixing.answer_mix.Goals as goal

pub returns-in-Err : goal.returns-in-Err
returns-in-Err c =
    rows_stop (mix_fault (all_bytes c.args.streams.now)) c.in-Err.error c.stop_at.result c.in-Err.ensures.err
    (subst (λ f. StopsAt f c.stop_at.result) c.rows_fault.ensures c.stop_at.ensures)
