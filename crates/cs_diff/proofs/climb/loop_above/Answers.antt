-- Parents that lead on without an end come back, so the way back is found.
use Rattle.std.proofs.Common.{sym}
use Rattle.cs_diff.proofs.ClimbLemmas.{comes_back}
use Rattle.cs_diff.proofs.climb.loop_above.Goals as goal

pub unreachable-requires-in-None : goal.unreachable-requires-in-None
unreachable-requires-in-None c =
    let s = c.args.sys.now in
    let back = comes_back c.args.reading s.constraints c.args.parents.now s.vertices s.in_range
    c.args.vertex c.in-Some.at c.requires.within (sym c.in-Some.ensures) in
    let none = rw c.in-None.is at c.in_ok-places.ensures.none in
    none back.0 back.1 back.2 back.3
