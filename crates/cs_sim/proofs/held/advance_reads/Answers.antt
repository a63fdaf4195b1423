use Rattle.std.proofs.Common.{◌≡◌, ℕ, ◌<◌, List, [], get_or, length, map, Bool, Vec, Global, sym, ap, ap₂, ◌∙◌, arith}
use Rattle.std.specs.List.{zip}
use Rattle.std.proofs.lemmas.List.{length-map}
use Rattle.cs_sim.specs.declared.layout.ReadPortSlots.{ReadPortSlots}
use Rattle.cs_sim.specs.Clock.{next_read}
use Rattle.cs_sim.proofs.Overwritten.{length-zipped, lengths_at, seen_at, seen_more, written_all, zipped_at}
use Rattle.cs_sim.proofs.held.advance_reads.Goals as goal

abbrev items_of : Vec Bool Global → List Bool
items_of v = v.items

abbrev size_of : ReadPortSlots → ℕ
size_of p = length p.bits

-- as many ports as there are lists of bits
ports_long : (ys : List (List Bool)) (xs : List ReadPortSlots) → map (λ bits. length bits) ys ≡ map size_of xs → length ys ≡ length xs
ports_long ys xs same = sym (length-map ys (λ bits. length bits)) ∙ ap length same ∙ length-map xs size_of

pub advance_port-requires : goal.advance_port-requires
advance_port-requires c =
    let next = next_read c.args.memories.now c.args.values.now in
    let slots = c.args.slots.now in
    let old = map items_of c.args.held.now in
    let i = c.loop-i.i in
    let long = ports_long old slots c.requires in
    let held_long = length-map c.args.held.now items_of in
    let same = length-zipped next slots old long in
    let in_old : i < length old = omega arith in
    let in_slots : i < length slots = omega arith in
    let in_held : i < length c.loop-i.held = omega arith in
    ap length (seen_at items_of c.loop-i.held (map next (zip slots old)) old i c.index-held-i.result [] same c.loop-i.invariant in_held)
    ∙ lengths_at size_of slots old i c.index-slots-i.result c.requires in_old in_slots c.index-slots-i.is

pub loop-i-preserved : goal.loop-i-preserved
loop-i-preserved c =
    let next = next_read c.args.memories.now c.args.values.now in
    let slots = c.args.slots.now in
    let old = map items_of c.args.held.now in
    let i = c.loop-i.i in
    let new = map next (zip slots old) in
    let long = ports_long old slots c.requires in
    let held_long = length-map c.args.held.now items_of in
    let same = length-zipped next slots old long in
    let in_old : i < length old = omega arith in
    let in_slots : i < length slots = omega arith in
    let in_held : i < length c.loop-i.held = omega arith in
    let is : c.advance_port.new.held.items ≡ get_or new i []
    = c.advance_port.ensures
    ∙ ap₂ (λ p h. next (p, h)) c.index-slots-i.is
    (seen_at items_of c.loop-i.held new old i c.index-held-i.result [] same c.loop-i.invariant in_held)
    ∙ sym (zipped_at next slots old i c.index-slots-i.result [] [] in_slots in_old) in
    seen_more items_of c.loop-i.held new old i c.advance_port.new.held [] same c.loop-i.invariant in_old is

pub returns : goal.returns
returns c =
    let next = next_read c.args.memories.now c.args.values.now in
    let slots = c.args.slots.now in
    let old = map items_of c.args.held.now in
    let long = ports_long old slots c.requires in
    let held_long = length-map c.args.held.now items_of in
    c.loop-i.invariant ∙ written_all (map next (zip slots old)) old c.loop-i.i (length-zipped next slots old long) (omega arith)
