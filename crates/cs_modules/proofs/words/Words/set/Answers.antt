-- A bit is put into one word.
use Rattle.std.proofs.Common.{◌≡◌, ◌∙◌, [], ap, arith, get_or, subst}
use Rattle.std.specs.Prelude.{slice_set}
use Rattle.cs_cells.specs.Memories.{Words}
use Rattle.cs_modules.proofs.WordLists.{bit_put, past_the_word, past_the_words}
use Rattle.cs_modules.proofs.words.Words.set.Goals as goal
use Rattle.cs_modules.proofs.words.Words.set.Goals.{else-word-self-via-then-word-self+else-place-self, else-word-self-via-else-word-self}

pub returns-then-place-self : goal.returns-then-place-self
returns-then-place-self c =
    let i = c.args.word in
    let j = c.args.place in
    bit_put c.self.inside.count c.self.inside.width i j c.self.inside.bits.items c.args.bit c.if-word-self.true c.if-place-self.true
    ∙ ap (λ (words : Words). slice_set words i (slice_set (get_or words i []) j c.args.bit)) c.self.view_is

pub returns-else-word-self : goal.returns-else-word-self
returns-else-word-self c =
    let n = c.self.inside.count in
    let w = c.self.inside.width in
    let bits = c.self.inside.bits.items in
    let i = c.args.word in
    let j = c.args.place in
    subst (λ (words : Words). words ≡ slice_set words i (slice_set (get_or words i []) j c.args.bit)) c.self.view_is
    (elim c.else-word-self.branch [
      | else-word-self-via-then-word-self+else-place-self v ↦ past_the_word n w i j bits c.args.bit (omega (arith, v.if-place-self.false))
      | else-word-self-via-else-word-self v ↦ past_the_words n w i j bits c.args.bit (omega (arith, v.if-word-self.false))
    ])
