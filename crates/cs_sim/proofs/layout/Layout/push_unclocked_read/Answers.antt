use Rattle.std.proofs.Common.{codes, length, map, sym, ap, ap₂, ◌∙◌}
use Rattle.std.proofs.lemmas.List.FromFn.{length-enumerate_from}
use Rattle.cs_net.specs.Drivers.{port_part}
use Rattle.cs_sim.specs.declared.layout.Work.TheVariants.{Read}
use Rattle.cs_sim.specs.Layout.{with_part}
use Rattle.cs_sim.specs.Slots.{slot_of}
use Rattle.cs_sim.proofs.Counted.{on_ok}
use Rattle.cs_sim.proofs.layout.Layout.push_unclocked_read.Goals as goal

pub returns : goal.returns
returns c =
    let cell = c.args.cell.now in
    let shape = c.args.shape.now in
    let address = c.in_ok-address.ensures ∙ ap (map (slot_of c.args.wiring.now.driven)) c.port_part.ensures in
    let width = ap length c.port_part-width.ensures ∙ sym (length-enumerate_from 0 (port_part cell (codes "RD_DATA") shape.width c.args.port)) in
    on_ok (λ is. is ∙ ap₂ (λ a n. with_part c.args.self.now (Read c.args.memory a n) n) address width) c.push_part.result c.push_part.ensures
