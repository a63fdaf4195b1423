-- The bits of an image, cut alike.
use Rattle.std.proofs.Common.{◌∙◌, Bool, List, ap, length}
use Rattle.cs_cells.specs.Memories.{Words}
use Rattle.cs_modules.specs.Words.{image_words, words_in}
use Rattle.cs_modules.proofs.WordLists.{cut_alike, image_long}
use Rattle.cs_modules.proofs.words.Words.with_bits.Goals as goal

pub invariant_of-result : goal.invariant_of-result
invariant_of-result c =
    ap length c.in_ok-from_slice.ensures.items
    ∙ image_long c.self.inside.count c.self.inside.width c.self.inside.bits.items c.args.image.now c.args.self.now
    c.self.view_is c.self.invariant c.requires

pub returns : goal.returns
returns c =
    let n = c.self.inside.count in
    let w = c.self.inside.width in
    let bits = c.self.inside.bits.items in
    let image = c.args.image.now in
    ap (words_in n w) c.in_ok-from_slice.ensures.items
    ∙ cut_alike n w bits image c.self.invariant
    (image_long n w bits image c.args.self.now c.self.view_is c.self.invariant c.requires)
    ∙ ap (λ (words : Words). image_words words image) c.self.view_is
