-- The literal is the one to skip, or it is marked.
use Rattle.std.proofs.Common.{sym, ◌∙◌}
use Rattle.cs_sat.proofs.Literals.{same_is, not_same}
use Rattle.cs_sat.proofs.Analyses.{marked_none}
use Rattle.cs_sat.proofs.analyse.mark_other.Goals as goal

pub returns-then-is_same : goal.returns-then-is_same
returns-then-is_same c =
    marked_none c.args.trail.now c.args.level c.args.lowest c.args.lit c.args.skip c.args.marks.now
    (λ differ. absurd (differ (same_is c.args.lit c.args.skip (sym c.is_same.ensures ∙ c.if-is_same.true))))

pub mark_false-requires-clause-falsified : goal.mark_false-requires-clause-falsified
mark_false-requires-clause-falsified c =
    c.requires.falsified (not_same c.args.lit c.args.skip (sym c.is_same.ensures ∙ c.if-is_same.false))

pub mark_false-requires-clause-other : goal.mark_false-requires-clause-other
mark_false-requires-clause-other c = not_same c.args.lit c.args.skip (sym c.is_same.ensures ∙ c.if-is_same.false)
