-- A word is a part of the bits.
use Rattle.std.proofs.Common.{◌≡◌, ◌∙◌, ◌+◌, ◌*◌, Bool, List, [], ap, arith, get_or, sym}
use Rattle.std.specs.Prelude.{slice_range}
use Rattle.cs_cells.specs.Memories.{Words}
use Rattle.cs_modules.proofs.WordLists.{word_missing, word_there}
use Rattle.cs_modules.proofs.words.Words.word.Goals as goal

pub returns-then-place-self : goal.returns-then-place-self
returns-then-place-self c =
    sym (word_missing c.self.inside.count c.self.inside.width c.args.place c.self.inside.bits.items c.if-place-self.true)
    ∙ ap (λ (words : Words). get_or words c.args.place []) c.self.view_is

pub returns : goal.returns
returns c =
    let w = c.self.inside.width in
    let i = c.args.place in
    ap (λ (bits : List Bool). slice_range bits (i * w) (i * w + w)) c.deref.ensures.value
    ∙ sym (word_there c.self.inside.count w i c.self.inside.bits.items (omega (arith, c.if-place-self.false)))
    ∙ ap (λ (words : Words). get_or words i []) c.self.view_is
