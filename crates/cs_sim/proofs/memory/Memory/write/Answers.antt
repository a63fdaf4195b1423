use Rattle.std.proofs.Common.{◌≡◌, ℕ, ◌^◌, ◌-◌, ◌≤◌, [], get_or, length, map, min, sym, ap, ap₂, ◌∙◌, arith}
use Rattle.std.specs.Prelude.{slice_set}
use Rattle.std.proofs.lemmas.List.{set_past}
use Rattle.cs_cells.specs.Memories.{Words, Write, after_write, merged_word, number_of, word_at}
use Rattle.cs_sim.specs.Clock.{write_in}
use Rattle.cs_sim.specs.Slots.{number_at, value_at}
use Rattle.cs_sim.proofs.Capped.{capped_get, capped_set}
use Rattle.cs_sim.proofs.memory.Memory.write.Goals as goal

-- the word at the address is merged
word_written : (words now : Words) (n top : ℕ) (w : Write) → n ≡ min (number_of w.address) top → length words ≤ top
    → now ≡ slice_set words n (merged_word (get_or words n []) w.word w.enable) → now ≡ after_write words w
unfolding after_write
word_written words now n top w at few is =
    let address = number_of w.address in
    is
    ∙ ap (λ k. slice_set words k (merged_word (get_or words k []) w.word w.enable)) at
    ∙ ap (λ x. slice_set words (min address top) (merged_word x w.word w.enable)) (capped_get words address top [] few)
    ∙ capped_set words address top (merged_word (word_at words w.address) w.word w.enable) few

-- an address that is no word is passed over
word_missed : (words : Words) (w : Write) → length words ≤ number_of w.address → words ≡ after_write words w
unfolding after_write
word_missed words w past = sym (set_past words (number_of w.address) (merged_word (word_at words w.address) w.word w.enable) past)

pub returns-then-number-len : goal.returns-then-number-len
returns-then-number-len c =
    let held = c.self.inside.words in
    let at = value_at c.args.values.now in
    let place = c.number-number.result in
    let n = c.number-number.ensures ∙ ap (λ a. min (number_at c.args.values.now a) (2 ^ 64 - 1)) c.as_slice.ensures in
    let made = c.merge.ensures
    ∙ ap₂ (λ b e. slice_set held place (merged_word (get_or held place []) (map at b) (map at e)))
    c.as_slice-then-number-len.ensures c.as_slice-then-number-len-2.ensures in
    word_written held c.merge.new.words place (2 ^ 64 - 1) (write_in c.args.values.now c.args.port.now) n
    (omega (arith, c.len.ensures, c.len.type_inv)) made
    ∙ ap (λ (words : Words). after_write words (write_in c.args.values.now c.args.port.now)) c.self.view_is

pub returns-else-number-len : goal.returns-else-number-len
returns-else-number-len c =
    let n = c.number-number.ensures ∙ ap (λ a. min (number_at c.args.values.now a) (2 ^ 64 - 1)) c.as_slice.ensures in
    let long : c.len.result ≡ length c.args.self.now = c.len.ensures ∙ ap (λ (words : Words). length words) c.self.view_is in
    word_missed c.args.self.now (write_in c.args.values.now c.args.port.now) (omega (arith, n, long))
