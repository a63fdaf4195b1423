use Rattle.std.proofs.Common.{◌≡◌, ◌∙◌, ◌<◌, Bool, List, [], ap, arith, cond, false, get_or, length, map, sym}
use Rattle.std.specs.Prelude.{slice_set}
use Rattle.std.proofs.lemmas.List.{length-map}
use Rattle.cs_cells.specs.Memories.{merged_word}
use Rattle.cs_sim.specs.Slots.{value_at}
use Rattle.cs_sim.proofs.MergedWords.{bit_kept, bit_put}
use Rattle.cs_sim.proofs.Overwritten.{length-merged, map_at, merged_all, merged_at}
use Rattle.cs_sim.proofs.memory.merge.Goals as goal
use Rattle.cs_sim.proofs.memory.merge.Goals.{then-value, else-value}

pub loop-i-preserved : goal.loop-i-preserved
loop-i-preserved c =
    let at = value_at c.args.values.now in
    let words = c.args.words.now in
    let place = c.args.place in
    let old = get_or words place [] in
    let i = c.loop-i.i in
    let news = map at c.args.bits.now in
    let enables = map at c.args.enable.now in
    let new = merged_word old news enables in
    let same = length-merged old news enables in
    let news_long = length-map c.args.bits.now at in
    let enables_long = length-map c.args.enable.now at in
    let wide : length c.word.result.now ≡ length old = ap (λ (word : List Bool). length word) c.word.ensures in
    let in_old : i < length old = omega arith in
    let in_bits : i < length c.args.bits.now = omega arith in
    let in_enable : i < length c.args.enable.now = omega arith in
    let enable = c.value.ensures ∙ sym (map_at at c.args.enable.now i 0 false in_enable) in
    let merged = merged_at old news enables i in_old (omega arith) (omega arith) in
    elim c.if-value.branch [
      | then-value w ↦
          let bit : w.value-then-value.result ≡ get_or new i false
          = w.value-then-value.ensures ∙ sym (map_at at c.args.bits.now i 0 false in_bits)
          ∙ sym (ap (λ e. cond e (get_or news i false) (get_or old i false)) (sym enable ∙ w.if-value.true)) ∙ sym merged in
          w.words-is ∙ w.set.ensures
          ∙ bit_put words c.loop-i.words place i new w.value-then-value.result same in_old c.loop-i.invariant bit
      | else-value w ↦
          let kept : get_or new i false ≡ get_or old i false
          = merged ∙ ap (λ e. cond e (get_or news i false) (get_or old i false)) (sym enable ∙ w.if-value.false) in
          w.words-is ∙ bit_kept words c.loop-i.words place i new same in_old c.loop-i.invariant kept
    ]

pub returns : goal.returns
returns c =
    let at = value_at c.args.values.now in
    let old = get_or c.args.words.now c.args.place [] in
    c.loop-i.invariant
    ∙ ap (slice_set c.args.words.now c.args.place)
    (merged_all old (map at c.args.bits.now) (map at c.args.enable.now) c.loop-i.i
    (omega (arith, length-map c.args.bits.now at, length-map c.args.enable.now at, ap (λ (word : List Bool). length word) c.word.ensures)))
