use Rattle.std.proofs.Common.{inl, inr}
use Rattle.std.specs.Option.{option_copied}
use Rattle.cs_run.specs.Slow.{AnswersNet, ExceedsLimit, RefusesNet, WritesSlowed}
use Rattle.cs_run.specs.Starts.{HasNoImages}
use Rattle.cs_run.proofs.StopLemmas.{answers_implies, handed_on, implies}
use Rattle.cs_run.proofs.slow.answer_netlist.Goals as goal

pub returns-in_err-starts : goal.returns-in_err-starts
returns-in_err-starts c =
    let words = c.args.words.now in
    let net = c.args.net.now in
    let images = option_copied c.args.images in
    let stop = c.in_err-starts.field-0.0 in
    handed_on (AnswersNet words net images) (RefusesNet words.contexts net images) stop c.from_residual.result c.from_residual.ensures.1
    (implies (HasNoImages words.contexts net images) (RefusesNet words.contexts net images) stop (λ fault none. inl none) c.in_err-starts.ensures.err)

pub returns : goal.returns
returns c =
    let words = c.args.words.now in
    let net = c.args.net.now in
    let images = option_copied c.args.images in
    let starts = c.in_ok-starts.starts in
    answers_implies (WritesSlowed words net starts) (AnswersNet words net images) (ExceedsLimit words.contexts net starts)
    (RefusesNet words.contexts net images) c.write_slowed.result
    (λ reply writes. record { starts = starts; says = c.in_ok-starts.ensures.ok; writes = writes })
    (λ fault exceeds. inr (record { starts = starts; says = c.in_ok-starts.ensures.ok; exceeds = exceeds })) c.write_slowed.ensures
