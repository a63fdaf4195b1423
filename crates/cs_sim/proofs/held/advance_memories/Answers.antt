use Rattle.std.proofs.Common.{◌≡◌, ◌<◌, [], get_or, length, map, sym, ap, ap₂, ◌∙◌, arith}
use Rattle.std.specs.Prelude.{slice_set}
use Rattle.std.specs.List.{zip}
use Rattle.cs_sim.specs.Clock.{next_words}
use Rattle.cs_sim.proofs.Overwritten.{length-zipped, written_all, written_at, written_more, zipped_at}
use Rattle.cs_sim.proofs.held.advance_memories.Goals as goal

pub loop-i-preserved : goal.loop-i-preserved
loop-i-preserved c =
    let next = next_words c.args.values.now in
    let slots = c.args.slots.now in
    let old = c.args.memories.now in
    let i = c.loop-i.i in
    let new = map next (zip old slots) in
    let same = length-zipped next old slots (sym c.requires) ∙ sym c.requires in
    let in_old : i < length old = omega arith in
    let in_slots : i < length slots = omega arith in
    let held = ap (λ h. get_or h i c.index-memories-i.result) c.loop-i.invariant ∙ written_at new old i c.index-memories-i.result same in
    let is : c.write_all.new.self ≡ get_or new i []
    = c.write_all.ensures
    ∙ ap₂ (λ m w. next (m, w)) held (c.as_slice.ensures ∙ c.index-slots-i.is)
    ∙ sym (zipped_at next old slots i c.index-memories-i.result c.index-slots-i.result [] in_old in_slots) in
    ap (λ h. slice_set h i c.write_all.new.self) c.loop-i.invariant
    ∙ written_more new old i [] c.write_all.new.self same in_old is

pub returns : goal.returns
returns c =
    let next = next_words c.args.values.now in
    let slots = c.args.slots.now in
    let old = c.args.memories.now in
    c.loop-i.invariant
    ∙ written_all (map next (zip old slots)) old c.loop-i.i (length-zipped next old slots (sym c.requires) ∙ sym c.requires) (omega arith)
