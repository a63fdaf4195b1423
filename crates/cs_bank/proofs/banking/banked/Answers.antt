-- What is put together is the banked draft.
use Rattle.std.proofs.Common.{◌∙◌, List, sym, ap₂, subst, arith}
use Rattle.std.proofs.lemmas.Option.{slice_get_within}
use Rattle.cs_graph.specs.declared.memory.Memory.{Memory}
use Rattle.cs_graph.specs.declared.source.OpenVertex.{OpenVertex}
use Rattle.cs_graph.specs.Draft.{AreFed, Draft, IsDraft, built}
use Rattle.cs_graph.specs.Invariant.{HasOrder}
use Rattle.cs_bank.proofs.BankedMachine.{all_fed, banked_draft, has_order}
use Rattle.cs_bank.proofs.StartLemmas.{entry_at, get_entry}
use Rattle.cs_bank.proofs.banking.banked.Goals as goal

pub assemble-requires-clause-draft : goal.assemble-requires-clause-draft
assemble-requires-clause-draft c =
    let g = c.args.machine.now in
    let entries = c.args.images.now.of in
    let can = c.requires.can in
    let some = c.get-count.ensures.some in
    let same = ap₂ (λ (vs : List OpenVertex) (ms : List Memory). record { vertices = vs; memories = ms })
    (c.from_vec.ensures ∙ c.in_ok-vertices.ensures) c.in_ok-memories.ensures in
    subst IsDraft (sym same)
    (banked_draft g c.keeps.ensures c.args.contexts entries can.whole (omega (arith, some)) c.get-count.ensures.few
    can.count
    (λ i m at. let within = slice_get_within g.memories i m at in let count = can.count in
    can.images i m (entry_at entries i) at (get_entry entries i (omega (arith, within, count))))
    c.requires.few)

pub assemble-requires-clause-fed : goal.assemble-requires-clause-fed
assemble-requires-clause-fed c =
    subst AreFed (sym (c.from_vec.ensures ∙ c.in_ok-vertices.ensures))
    (all_fed c.args.machine.now c.keeps.ensures c.args.contexts c.args.images.now.of c.requires.can.whole)

pub assemble-requires-clause-order : goal.assemble-requires-clause-order
assemble-requires-clause-order c =
    let some = c.get-count.ensures.some in
    let same = ap₂ (λ (vs : List OpenVertex) (ms : List Memory). record { vertices = vs; memories = ms })
    (c.from_vec.ensures ∙ c.in_ok-vertices.ensures) c.in_ok-memories.ensures in
    subst (λ (d : Draft). HasOrder (built d)) (sym same)
    (has_order c.args.machine.now c.keeps.ensures c.args.contexts c.args.images.now.of c.requires.can.whole
    (omega (arith, some)))
