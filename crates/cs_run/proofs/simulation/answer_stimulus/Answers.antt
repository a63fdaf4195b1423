use Rattle.std.proofs.Common.{subst}
use Rattle.cs_stream.specs.Reading.{fault_of as stimulus_fault}
use Rattle.cs_run.specs.Reasons.{HasNoRows, StopsFor}
use Rattle.cs_run.specs.Sim.{HasNoStimulus, PutsAnswer}
use Rattle.cs_run.proofs.StopLemmas.{handed_on}
use Rattle.cs_run.proofs.simulation.answer_stimulus.Goals as goal

pub returns-in_err-rows : goal.returns-in_err-rows
returns-in_err-rows c =
    let stim = c.args.stim.now in
    let net = c.args.net.now in
    let stop = c.in_err-rows.field-0.0 in
    handed_on (PutsAnswer net stim) (HasNoStimulus net stim) stop c.from_residual.result c.from_residual.ensures.1
    (subst (λ w. StopsFor (HasNoRows (stimulus_fault w stim)) stop) c.input_count.ensures c.in_err-rows.ensures.err)
