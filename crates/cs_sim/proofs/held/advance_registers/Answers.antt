use Rattle.std.proofs.Common.{◌≡◌, ◌<◌, false, get_or, length, map, sym, ap, ap₂, ◌∙◌, arith}
use Rattle.std.specs.Prelude.{slice_set}
use Rattle.std.specs.List.{zip}
use Rattle.cs_sim.specs.Clock.{next_register}
use Rattle.cs_sim.proofs.Overwritten.{length-zipped, written_all, written_at, written_more, zipped_at}
use Rattle.cs_sim.proofs.held.advance_registers.Goals as goal

pub loop-i-preserved : goal.loop-i-preserved
loop-i-preserved c =
    let next = next_register c.args.values.now in
    let slots = c.args.slots.now in
    let old = c.args.held.now in
    let i = c.loop-i.i in
    let new = map next (zip slots old) in
    let same = length-zipped next slots old c.requires in
    let in_old : i < length old = omega arith in
    let in_slots : i < length slots = omega arith in
    let is : c.next_register.result ≡ get_or new i false
    = c.next_register.ensures
    ∙ ap₂ (λ s h. next (s, h)) c.index-slots-i.is (ap (λ h. get_or h i false) c.loop-i.invariant ∙ written_at new old i false same)
    ∙ sym (zipped_at next slots old i c.index-slots-i.result false false in_slots in_old) in
    ap (λ h. slice_set h i c.next_register.result) c.loop-i.invariant
    ∙ written_more new old i false c.next_register.result same in_old is

pub returns : goal.returns
returns c =
    let next = next_register c.args.values.now in
    let slots = c.args.slots.now in
    let old = c.args.held.now in
    c.loop-i.invariant ∙ written_all (map next (zip slots old)) old c.loop-i.i (length-zipped next slots old c.requires) (omega arith)
