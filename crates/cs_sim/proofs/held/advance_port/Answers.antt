use Rattle.std.proofs.Common.{◌≡◌, length, drop, map, ap, ap₂, ◌∙◌, arith}
use Rattle.std.specs.List.{enumerate_from, zip}
use Rattle.std.proofs.lemmas.List.{take_at}
use Rattle.cs_sim.specs.Clock.{next_read_bit, word_in}
use Rattle.cs_sim.proofs.held.advance_port.Goals as goal

pub returns : goal.returns
returns c =
    let slots = c.args.slots.now in
    let values = c.args.values.now in
    let new = c.advance_read.new.held in
    let long : length new ≡ c.args.held.now.len = omega arith in
    let word = c.word_in-word.ensures ∙ ap (word_in c.args.memories.now slots.memory values) c.as_slice.ensures in
    take_at new (drop (length new) c.args.held.now.items) c.args.held.now.len long
    ∙ c.advance_read.ensures
    ∙ ap₂ (λ w h. map (next_read_bit values slots w) (enumerate_from 0 (zip slots.bits h))) word c.as_mut_slice.ensures.value
