-- The words together are the bits.
use Rattle.std.proofs.Common.{◌∙◌, Bool, List, ap, flat_map, sym}
use Rattle.cs_modules.proofs.WordLists.{all_bits}
use Rattle.cs_modules.proofs.words.Words.bits.Goals as goal

pub returns : goal.returns
returns c =
    c.as_slice.ensures.value
    ∙ sym (all_bits c.self.inside.count c.self.inside.width c.self.inside.bits.items c.self.invariant)
    ∙ ap (flat_map (λ (word : List Bool). word)) c.self.view_is
