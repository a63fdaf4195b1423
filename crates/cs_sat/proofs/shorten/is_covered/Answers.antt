-- The literal is the one to skip, or it is false.
use Rattle.std.proofs.Common.{sym, ◌∙◌}
use Rattle.cs_sat.proofs.Literals.{same_is, not_same}
use Rattle.cs_sat.proofs.Shortening.{covered_one}
use Rattle.cs_sat.proofs.shorten.is_covered.Goals as goal

pub returns-then-is_same : goal.returns-then-is_same
returns-then-is_same c _ =
    covered_one c.args.trail.now c.args.marks.now c.args.lit c.args.skip
    (λ differ. absurd (differ (same_is c.args.lit c.args.skip (sym c.is_same.ensures ∙ c.if-is_same.true))))

pub is_false_covered-requires-clause-falsified : goal.is_false_covered-requires-clause-falsified
is_false_covered-requires-clause-falsified c =
    c.requires.falsified (not_same c.args.lit c.args.skip (sym c.is_same.ensures ∙ c.if-is_same.false))

pub returns : goal.returns
returns c is = c.is_false_covered.ensures is c.args.skip
