use Rattle.std.proofs.Common.{◌≡◌, ◌<◌, false, get_or, length, map, sym, ap, ap₂, ◌∙◌, arith}
use Rattle.std.specs.Prelude.{slice_set}
use Rattle.std.specs.List.{enumerate_from, zip}
use Rattle.cs_sim.specs.Clock.{next_read_bit}
use Rattle.cs_sim.proofs.Overwritten.{length-numbered, numbered_at, written_all, written_at, written_more}
use Rattle.cs_sim.proofs.held.advance_read.Goals as goal

pub loop-i-preserved : goal.loop-i-preserved
loop-i-preserved c =
    let next = next_read_bit c.args.values.now c.args.slots.now c.args.word.now in
    let bits = c.args.slots.now.bits in
    let old = c.args.held.now in
    let i = c.loop-i.i in
    let new = map next (enumerate_from 0 (zip bits old)) in
    let same = length-numbered next 0 bits old c.requires in
    let in_old : i < length old = omega arith in
    let in_bits : i < length bits = omega arith in
    let bit = c.index-bits-i.is ∙ ap (λ bs. get_or bs i c.index-bits-i.result) c.as_slice-bits.ensures in
    let is : c.next_read_bit.result ≡ get_or new i false
    = c.next_read_bit.ensures
    ∙ ap₂ (λ b h. next (i, (b, h))) bit (ap (λ h. get_or h i false) c.loop-i.invariant ∙ written_at new old i false same)
    ∙ sym (numbered_at next 0 bits old i i c.index-bits-i.result false false (omega arith) in_bits in_old) in
    ap (λ h. slice_set h i c.next_read_bit.result) c.loop-i.invariant
    ∙ written_more new old i false c.next_read_bit.result same in_old is

pub returns : goal.returns
returns c =
    let next = next_read_bit c.args.values.now c.args.slots.now c.args.word.now in
    let bits = c.args.slots.now.bits in
    let old = c.args.held.now in
    c.loop-i.invariant
    ∙ written_all (map next (enumerate_from 0 (zip bits old))) old c.loop-i.i (length-numbered next 0 bits old c.requires) (omega arith)
