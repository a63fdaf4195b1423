-- A bit more.
use Rattle.std.proofs.Common.{refl, subst, List, ℕ}
use Rattle.cs_paths.specs.Marks.{AddsMark}
use Rattle.cs_paths.proofs.MarkLemmas.{adds_mark, filled_more, with_mark}
use Rattle.cs_paths.proofs.marking.Marks.add.Goals as goal

pub invariant_of-self : goal.invariant_of-self
invariant_of-self c =
    filled_more c.self.inside.words c.self.inside.filled _ c.args.place _ c.self.invariant c.requires
    (adds_mark c.self.inside.words c.args.place _ _ c.self.invariant.count c.requires refl refl).marked refl

pub returns : goal.returns
returns c =
    subst (λ (words : List ℕ). AddsMark c.args.place words (with_mark c.self.inside.words c.args.place)) c.self.view_is
    (adds_mark c.self.inside.words c.args.place _ _ c.self.invariant.count c.requires refl refl)
