use Rattle.std.proofs.Common.{inl, inr}
use Rattle.cs_run.specs.Sim.{HasNoStimulus, PutsAnswer}
use Rattle.cs_run.specs.SimContext.{PutsContext, RefusesContext}
use Rattle.cs_run.specs.Starts.{SaysNoImages}
use Rattle.cs_run.proofs.StopLemmas.{answers_implies, handed_on, implies}
use Rattle.cs_run.proofs.context.answer_images.Goals as goal

pub returns-in_err-own : goal.returns-in_err-own
returns-in_err-own c =
    let words = c.args.words.now in
    let net = c.args.net.now in
    let stim = c.args.stim.now in
    let images = c.args.images.now in
    let stop = c.in_err-own.field-0.0 in
    handed_on (PutsContext words net stim images) (RefusesContext words net stim images) stop c.from_residual.result c.from_residual.ensures.1
    (implies (SaysNoImages words.contexts net images) (RefusesContext words net stim images) stop (λ fault none. inl none) c.in_err-own.ensures.err)

pub returns : goal.returns
returns c =
    let words = c.args.words.now in
    let net = c.args.net.now in
    let stim = c.args.stim.now in
    let images = c.args.images.now in
    let own = c.in_ok-own.own in
    answers_implies (PutsAnswer own stim) (PutsContext words net stim images) (HasNoStimulus own stim) (RefusesContext words net stim images)
    c.answer_stimulus.result (λ reply puts. record { own = own; of_context = c.in_ok-own.ensures.ok; puts = puts })
    (λ fault no_rows. inr (record { own = own; of_context = c.in_ok-own.ensures.ok; no_rows = no_rows })) c.answer_stimulus.ensures
