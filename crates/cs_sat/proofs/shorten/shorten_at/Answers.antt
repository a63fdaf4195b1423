-- The literal at the place is left out.
use Rattle.std.proofs.Common.{◌++◌, arith}
use Rattle.cs_sat.proofs.Shortening.{shortened}
use Rattle.cs_sat.proofs.shorten.shorten_at.Goals as goal

pub returns-then-is_redundant : goal.returns-then-is_redundant
returns-then-is_redundant c level is =
    shortened (c.args.base.now ++ c.args.lines.now) c.args.trail.now level c.args.at c.args.place c.args.marks.now c.unmark.new.self
    c.requires.over (c.is_redundant.ensures c.if-is_redundant.true) c.if-place-at.false (omega arith) c.unmark.ensures.marked
    c.unmark.ensures.touched is
