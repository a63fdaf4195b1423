use Rattle.std.proofs.Common.{inl, inr}
use Rattle.cs_run.specs.Bytes.{HasNoNetlist, SaysNoDocument, SaysNoNetlist}
use Rattle.cs_run.proofs.StopLemmas.{if_handed_on, if_implies, implies}
use Rattle.cs_run.proofs.netlists.read_netlist.Goals as goal

pub returns-in_err-doc-clause-err : goal.returns-in_err-doc-clause-err
returns-in_err-doc-clause-err c =
    let bytes = c.args.bytes.now in
    let stop = c.in_err-doc.field-0.0 in
    if_handed_on (SaysNoNetlist bytes) stop c.from_residual.result c.from_residual.ensures.1
    (implies (SaysNoDocument bytes) (SaysNoNetlist bytes) stop (λ fault none. inl none) c.in_err-doc.ensures.err)

pub returns-clause-err : goal.returns-clause-err
returns-clause-err c =
    let bytes = c.args.bytes.now in
    if_implies (HasNoNetlist c.in_ok-doc.doc) (SaysNoNetlist bytes) c.read_net.result
    (λ fault none. inr (record { doc = c.in_ok-doc.doc; says = c.in_ok-doc.ensures.says; none = none })) c.read_net.ensures.err
