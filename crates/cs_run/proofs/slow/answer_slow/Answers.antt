use Rattle.std.proofs.Common.{inl, inr}
use Rattle.std.specs.Option.{option_copied}
use Rattle.cs_run.specs.Bytes.{SaysNoNetlist}
use Rattle.cs_run.specs.Slow.{AnswersNet, BuildsIsolate, MakesSlow, RefusesNet, RefusesSlow}
use Rattle.cs_run.proofs.SlowLemmas.{builds_isolate, makes_of}
use Rattle.cs_run.proofs.StopLemmas.{answers_implies, handed_on, implies}
use Rattle.cs_run.proofs.slow.answer_slow.Goals as goal

pub returns-in_err-net : goal.returns-in_err-net
returns-in_err-net c =
    let words = c.args.words.now in
    let bytes = c.args.bytes.now in
    let images = option_copied c.args.images in
    let stop = c.in_err-net.field-0.0 in
    handed_on (λ reply. MakesSlow words bytes images reply × BuildsIsolate words.contexts bytes images) (RefusesSlow words.contexts bytes images)
    stop c.from_residual.result c.from_residual.ensures.1
    (implies (SaysNoNetlist bytes) (RefusesSlow words.contexts bytes images) stop (λ fault says. inl says) c.in_err-net.ensures.err)

pub returns : goal.returns
returns c =
    let words = c.args.words.now in
    let bytes = c.args.bytes.now in
    let images = option_copied c.args.images in
    let net = c.in_ok-net.net in
    answers_implies (AnswersNet words net images) (λ reply. MakesSlow words bytes images reply × BuildsIsolate words.contexts bytes images)
    (RefusesNet words.contexts net images) (RefusesSlow words.contexts bytes images) c.answer_netlist.result
    (λ reply answers. (
      makes_of words bytes images net reply c.in_ok-net.ensures.ok answers,
      builds_isolate words bytes images net reply c.in_ok-net.ensures.ok answers,
    ))
    (λ fault refuses. inr (record { net = net; of_read = c.in_ok-net.ensures.ok; refuses = refuses })) c.answer_netlist.ensures
