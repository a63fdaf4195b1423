use Rattle.std.proofs.Common.{◌≡◌, ◌<◌, false, get_or, length, map, sym, ap, ◌∙◌, arith}
use Rattle.std.proofs.lemmas.List.{length-map}
use Rattle.std.specs.Prelude.{slice_set}
use Rattle.cs_sim.specs.Slots.{value_at}
use Rattle.cs_sim.proofs.Overwritten.{map_at, written_all, written_more}
use Rattle.cs_sim.proofs.simulator.show.Goals as goal

pub loop-i-preserved : goal.loop-i-preserved
loop-i-preserved c =
    let at = value_at c.args.values.now in
    let slots = c.args.slots.now in
    let old = c.args.output.now in
    let i = c.loop-i.i in
    let in_old : i < length old = omega arith in
    let in_slots : i < length slots = omega arith in
    let is : c.value.result ≡ get_or (map at slots) i false
    = c.value.ensures ∙ sym (map_at at slots i 0 false in_slots) in
    ap (λ h. slice_set h i c.value.result) c.loop-i.invariant
    ∙ written_more (map at slots) old i false c.value.result (length-map slots at ∙ sym c.requires) in_old is

pub returns : goal.returns
returns c =
    let at = value_at c.args.values.now in
    let slots = c.args.slots.now in
    c.loop-i.invariant
    ∙ written_all (map at slots) c.args.output.now c.loop-i.i (length-map slots at ∙ sym c.requires) (omega arith)
