use Rattle.std.proofs.Common.{false, subst, sym}
use Rattle.cs_graph.specs.Run.{RunsWith}
use Rattle.cs_isolate.specs.Isolating.{own_names}
use Rattle.cs_isolate.proofs.Isolating.{isolating}
use Rattle.cs_isolate.proofs.OwnNames.{own_names_fit}
use Rattle.cs_share.specs.Names.{AreNamesFor}
use Rattle.cs_share.proofs.ReadsBack.{emission_is_read_back}
use Rattle.cs_isolate.proofs.slowing.slowed_document.Goals as goal

pub own_document-requires-clause-names : goal.own_document-requires-clause-names
own_document-requires-clause-names c =
    subst (λ g. AreNamesFor g (own_names c.args.net.now)) (sym c.in_ok-interleaved.ensures.machine)
    (own_names_fit c.args.net.now c.keeps.ensures c.args.images.now c.args.contexts)

pub returns-in-Ok-clause-isolates : goal.returns-in-Ok-clause-isolates
returns-in-Ok-clause-isolates c =
    let net = c.args.net.now in
    let machine = c.in_ok-interleaved.interleaved.machine in
    let fit = subst (λ g. AreNamesFor g (own_names net)) (sym c.in_ok-interleaved.ensures.machine)
    (own_names_fit net c.keeps.ensures c.args.images.now c.args.contexts) in
    isolating net c.keeps.ensures c.args.images.now c.args.contexts c.requires machine c.in-Ok.document
    (emission_is_read_back machine c.keeps-2.ensures (own_names net) fit c.in-Ok.document c.in-Ok.ensures)
    (λ rows outputs run. subst (λ g. RunsWith false g rows outputs) c.in_ok-interleaved.ensures.machine run)
