-- A Write's pins.
use Rattle.std.proofs.Common.{◌+◌, ◌*◌, ◌∙◌, ◌++◌, Some, length, map, sym, ap, ap₂, arith}
use Rattle.std.specs.Prelude.{get_or}
use Rattle.std.proofs.lemmas.Bool.{OnTrue_from}
use Rattle.std.proofs.lemmas.List.FromFn.{length-map-range_with_len}
use Rattle.std.proofs.lemmas.Result.{on_ok_weaker}
use Rattle.cs_bank.specs.Bank.{banked_pins, first_guard, guard_count_of, write_pins}
use Rattle.cs_bank.specs.ContextBits.{context_pins}
use Rattle.cs_bank.specs.Guards.{guard_count, guards_place, is_guarded}
use Rattle.cs_bank.specs.Wired.{feed_source, wired}
use Rattle.cs_bank.proofs.GuardPlaces.{place_few, place_of, width_few}
use Rattle.cs_bank.proofs.MachineWrites.{write_is}
use Rattle.cs_bank.proofs.vertices.push_pins.Goals as goal

pub memory-memory-requires : goal.memory-memory-requires
memory-memory-requires c =
    (write_is c.args.machine.now c.keeps.ensures c.requires.vertex.0 c.in-Write.memory c.in-Write.port
    c.args.vertex.now c.requires.vertex.1 c.in-Write.is).there

pub bounds-places-get : goal.bounds-places-get
bounds-places-get c =
    let g = c.args.machine.now in
    let there = (write_is g c.keeps.ensures c.requires.vertex.0 c.in-Write.memory c.in-Write.port
    c.args.vertex.now c.requires.vertex.1 c.in-Write.is).there in
    let count = ap length c.requires.places
    ∙ length-map-range_with_len (guards_place (first_guard c.args.contexts (wired g)) 0 g.memories (wired g).vertices) 0
    (length g.memories) in
    let get = c.get.ensures in
    omega (arith, there, count, get)

pub guard_place-place-requires-clause-sizes : goal.guard_place-place-requires-clause-sizes
guard_place-place-requires-clause-sizes c =
    let is = c.keeps.ensures.memories.each c.in-Write.memory c.memory-memory.result.now c.memory-memory.ensures in
    let width = width_few c.memory-memory.result.now is in
    let bits = is.address_bits in
    omega (arith, width, bits)

pub guard_place-place-requires-clause-few : goal.guard_place-place-requires-clause-few
guard_place-place-requires-clause-few c =
    let few = place_few c.args.machine.now c.keeps.ensures c.args.contexts c.requires.vertex.0 c.in-Write.memory
    c.in-Write.port c.args.vertex.now c.memory-memory.result.now c.requires.vertex.1 c.in-Write.is
    c.memory-memory.ensures c.requires.few in
    let place = ap₂ (λ ps i. get_or ps i 0) c.requires.places c.get.ensures in
    omega (arith, few, place)

pub push_write_pins-requires-clause-few : goal.push_write_pins-requires-clause-few
push_write_pins-requires-clause-few c =
    let few = place_few c.args.machine.now c.keeps.ensures c.args.contexts c.requires.vertex.0 c.in-Write.memory
    c.in-Write.port c.args.vertex.now c.memory-memory.result.now c.requires.vertex.1 c.in-Write.is
    c.memory-memory.ensures c.requires.few in
    let place = ap₂ (λ ps i. get_or ps i 0) c.requires.places c.get.ensures in
    let is = c.guard_place-place.ensures in
    OnTrue_from (is_guarded c.memory-memory.result.now) _ (λ on. omega (arith, few, place, is))

pub returns-in-Write : goal.returns-in-Write
returns-in-Write c =
    let g = c.args.machine.now in
    let contexts = c.args.contexts in
    let first = first_guard contexts (wired g) in
    let context = context_pins contexts (length g.vertices) in
    let old = c.args.pins.now.items in
    let memory = c.in-Write.memory in
    let m = c.memory-memory.result.now in
    let pins = map (feed_source g.edges) c.args.vertex.now.pins in
    let there = (write_is g c.keeps.ensures c.requires.vertex.0 memory c.in-Write.port
    c.args.vertex.now c.requires.vertex.1 c.in-Write.is).there in
    let place = c.guard_place-place.ensures
    ∙ ap (λ n. n + c.in-Write.port * guard_count m)
    (ap₂ (λ ps i. get_or ps i 0) c.requires.places c.get.ensures ∙ place_of g c.keeps.ensures contexts memory there) in
    on_ok_weaker c.push_write_pins.result (λ pushed. pushed
    ∙ ap₂ (λ p fs. old ++ write_pins context p (Some m) (map (feed_source g.edges) fs)) place c.as_slice-feeds.ensures
    ∙ ap (λ o. old ++ write_pins context
    (guards_place first 0 g.memories (wired g).vertices memory + c.in-Write.port * guard_count_of o) o pins)
    (sym c.memory-memory.ensures)
    ∙ ap (λ kind. old ++ banked_pins context first (wired g) kind pins) (sym c.in-Write.is))
    c.push_write_pins.ensures
