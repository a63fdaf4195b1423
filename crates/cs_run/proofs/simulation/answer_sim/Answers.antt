use Rattle.std.proofs.Common.{inl, inr}
use Rattle.cs_run.specs.Bytes.{SaysNoNetlist}
use Rattle.cs_run.specs.Sim.{HasNoStimulus, MakesSim, PutsAnswer, RefusesSim}
use Rattle.cs_run.proofs.StopLemmas.{answers_implies, handed_on, implies}
use Rattle.cs_run.proofs.simulation.answer_sim.Goals as goal

pub returns-in_err-net : goal.returns-in_err-net
returns-in_err-net c =
    let bytes = c.args.bytes.now in
    let stim = c.args.stim.now in
    let stop = c.in_err-net.field-0.0 in
    handed_on (MakesSim bytes stim) (RefusesSim bytes stim) stop c.from_residual.result c.from_residual.ensures.1
    (implies (SaysNoNetlist bytes) (RefusesSim bytes stim) stop (λ fault says. inl says) c.in_err-net.ensures.err)

pub returns : goal.returns
returns c =
    let bytes = c.args.bytes.now in
    let stim = c.args.stim.now in
    let net = c.in_ok-net.net in
    answers_implies (PutsAnswer net stim) (MakesSim bytes stim) (HasNoStimulus net stim) (RefusesSim bytes stim) c.answer_stimulus.result
    (λ reply puts. record { net = net; of_net = c.in_ok-net.ensures.ok; puts = puts })
    (λ fault no_rows. inr (record { net = net; of_net = c.in_ok-net.ensures.ok; no_rows = no_rows })) c.answer_stimulus.ensures
