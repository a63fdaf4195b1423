use Rattle.std.proofs.Common.{inl, inr}
use Rattle.cs_run.specs.Bytes.{SaysNoNetlist}
use Rattle.cs_run.specs.SimContext.{MakesSimContext, PutsContext, RefusesContext, RefusesSimContext}
use Rattle.cs_run.proofs.StopLemmas.{answers_implies, handed_on, implies}
use Rattle.cs_run.proofs.context.answer_sim_context.Goals as goal

pub returns-in_err-net : goal.returns-in_err-net
returns-in_err-net c =
    let words = c.args.words.now in
    let bytes = c.args.bytes.now in
    let stim = c.args.stim.now in
    let images = c.args.images.now in
    let stop = c.in_err-net.field-0.0 in
    handed_on (MakesSimContext words bytes stim images) (RefusesSimContext words bytes stim images) stop c.from_residual.result
    c.from_residual.ensures.1
    (implies (SaysNoNetlist bytes) (RefusesSimContext words bytes stim images) stop (λ fault says. inl says) c.in_err-net.ensures.err)

pub returns : goal.returns
returns c =
    let words = c.args.words.now in
    let bytes = c.args.bytes.now in
    let stim = c.args.stim.now in
    let images = c.args.images.now in
    let net = c.in_ok-net.net in
    answers_implies (PutsContext words net stim images) (MakesSimContext words bytes stim images) (RefusesContext words net stim images)
    (RefusesSimContext words bytes stim images) c.answer_images.result
    (λ reply puts. record { net = net; of_net = c.in_ok-net.ensures.ok; puts = puts })
    (λ fault refuses. inr (record { net = net; of_net = c.in_ok-net.ensures.ok; refuses = refuses })) c.answer_images.ensures
