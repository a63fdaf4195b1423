-- Its own contents fit, and are few enough.
use Rattle.std.proofs.Common.{◌∙◌, ap, subst}
use Rattle.cs_graph.specs.Faults.{TellsLimit}
use Rattle.cs_graph.specs.OtherContents.{weight_fault, with_contents}
use Rattle.cs_bank.proofs.Copied.{own_contents_few, own_contents_same}
use Rattle.cs_bank.proofs.copies.copy_of.Goals as goal

pub memory_alone-requires : goal.memory_alone-requires
memory_alone-requires c =
    subst (λ fault. TellsLimit fault c.in-Err.error)
    (ap weight_fault c.in_ok-contents.ensures ∙ own_contents_few c.args.machine.now c.keeps.ensures)
    c.in-Err.ensures.cause

pub returns-in-Ok : goal.returns-in-Ok
returns-in-Ok c =
    let g = c.args.machine.now in
    c.in-Ok.ensures.ok
    ∙ ap (λ k. with_contents k g) c.in_ok-contents.ensures
    ∙ own_contents_same g c.keeps.ensures
