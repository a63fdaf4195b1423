-- As many words as it counts.
use Rattle.std.proofs.Common.{◌∙◌, ap, length, sym}
use Rattle.cs_modules.proofs.WordLists.{length-words_in}
use Rattle.cs_modules.proofs.words.Words.len.Goals as goal

pub returns : goal.returns
returns c =
    sym (length-words_in c.self.inside.count c.self.inside.width c.self.inside.bits.items) ∙ ap length c.self.view_is
