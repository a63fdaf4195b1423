use Rattle.std.proofs.Common.{◌∙◌, ap, ap₂, subst}
use Rattle.cs_graph.specs.Lags.{retimed}
use Rattle.cs_graph.specs.OtherContents.{weight_fault}
use Rattle.cs_isolate.proofs.Still.{own_within, retimed_still}
use Rattle.cs_share.specs.EmitFaults.{TellsEmitFault}
use Rattle.cs_share.specs.Emission.{IsEmission}
use Rattle.cs_isolate.proofs.unmoved.still_document.Goals as goal

pub returns-in-Ok : goal.returns-in-Ok
returns-in-Ok c =
    let machine = c.args.machine.now in
    subst (λ g. IsEmission g c.args.names.now c.in-Ok.document)
    (ap₂ (λ lags contents. retimed lags contents machine) (c.as_slice.ensures.value ∙ c.in_ok-lags.ensures) c.in_ok-contents.ensures
    ∙ retimed_still machine)
    c.in-Ok.ensures.ok

pub memory_alone-requires : goal.memory_alone-requires
memory_alone-requires c =
    subst (λ fault. TellsEmitFault fault c.in-Err.error)
    (ap weight_fault c.in_ok-contents.ensures ∙ own_within c.args.machine.now c.keeps.ensures) c.in-Err.ensures.cause
