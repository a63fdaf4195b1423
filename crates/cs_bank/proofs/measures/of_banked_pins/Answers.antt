-- A Write's pins and its guard.
use Rattle.std.proofs.Common.{◌+◌, ◌∙◌, length, map, sym, ap, Some}
use Rattle.std.specs.Prelude.{min}
use Rattle.cs_bank.specs.Bank.{banked_pins, first_guard, guard_place, write_pins}
use Rattle.cs_bank.specs.ContextBits.{context_pins}
use Rattle.cs_bank.specs.Guards.{guard}
use Rattle.cs_bank.specs.Measures.{extent, guard_by, guard_of, of_pins}
use Rattle.cs_bank.specs.Wired.{feed_source, wired}
use Rattle.cs_bank.proofs.Counted.{most}
use Rattle.cs_bank.proofs.MachineWrites.{write_is}
use Rattle.cs_bank.proofs.measures.of_banked_pins.Goals as goal

pub memory-requires : goal.memory-requires
memory-requires c =
    (write_is c.args.machine.now c.keeps.ensures c.requires.vertex.0 c.in-Write.memory c.in-Write.port
    c.args.vertex.now c.requires.vertex.1 c.in-Write.is).there

pub returns-in-Write : goal.returns-in-Write
returns-in-Write c =
    let g = c.args.machine.now in
    let n = length g.vertices in
    let first = first_guard c.args.contexts (wired g) in
    let context = context_pins c.args.contexts n in
    let measure = c.args.measure in
    let pins = map (feed_source g.edges) c.args.vertex.now.pins in
    let place = guard_place first (wired g) c.in-Write.memory c.in-Write.port in
    c.of_write.ensures n place 0
    ∙ ap (λ fs. min (of_pins measure (write_pins context place (Some c.memory.result.now) (map (feed_source g.edges) fs))
    + extent measure (guard 0 c.memory.result.now (map (feed_source g.edges) fs))) most) c.as_slice-feeds.ensures
    ∙ ap (λ o. min (of_pins measure (write_pins context place o pins) + extent measure (guard_by o pins)) most)
    (sym c.memory.ensures)
    ∙ ap (λ kind. min (of_pins measure (banked_pins context first (wired g) kind pins)
    + extent measure (guard_of g.memories kind pins)) most) (sym c.in-Write.is)
