use Rattle.std.proofs.Common.{subst}
use Rattle.cs_run.specs.Reasons.{StopsAt}
use Rattle.cs_run.proofs.UpgradeLemmas.{paper_stop}
use Rattle.cs_run.proofs.upgrading.answer_upgrade.Goals as goal

pub returns-in-Err : goal.returns-in-Err
returns-in-Err c =
    paper_stop c.args.bytes.now c.in-Err.error c.stop_at.result c.in-Err.ensures.err
    (subst (λ f. StopsAt f c.stop_at.result) c.cert_fault.ensures c.stop_at.ensures)
