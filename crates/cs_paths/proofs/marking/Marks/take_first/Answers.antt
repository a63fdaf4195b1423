-- The lowest bit of the first word that isn't 0.
use Rattle.std.proofs.Common.{◌+◌, ◌*◌, List, ℕ, refl, sym, subst}
use Rattle.cs_paths.specs.Marks.{TakesMark}
use Rattle.cs_paths.proofs.MarkLemmas.{takes_mark, filled_less, without_mark}
use Rattle.cs_paths.proofs.marking.Marks.take_first.Goals as goal
use Rattle.cs_paths.proofs.marking.Marks.take_first.Goals.{then-rest-eq0, else-rest-eq0}

pub invariant_of-self : goal.invariant_of-self
invariant_of-self c =
    filled_less c.self.inside.words c.self.inside.filled c.self.invariant c.lowest-block.result c.lowest-bit.result _ _
    c.lowest-block.ensures refl c.lowest-bit.ensures refl _ c.if-rest-eq0.true refl

pub returns-clause-some : goal.returns-clause-some
returns-clause-some c =
    let b = c.lowest-block.result in
    let t = c.lowest-bit.result in
    let takes : TakesMark (b * 64 + t) c.args.self.now (without_mark c.self.inside.words b t) =
    subst (λ (words : List ℕ). TakesMark (b * 64 + t) words (without_mark c.self.inside.words b t)) c.self.view_is
    (takes_mark c.self.inside.words c.self.inside.filled c.self.invariant b t _ _ c.lowest-block.ensures refl
    c.lowest-bit.ensures refl) in
    elim c.if-rest-eq0.branch [
      | then-rest-eq0 w ↦ subst (TakesMark (b * 64 + t) c.args.self.now) (sym w.self-is) takes
      | else-rest-eq0 w ↦ subst (TakesMark (b * 64 + t) c.args.self.now) (sym w.self-is) takes
    ]
