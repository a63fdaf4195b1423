-- Each half has fewer rows.
use Rattle.std.proofs.Common.{◌+◌, ◌*◌}
use Rattle.cs_paths.proofs.matrix.+halving.Given as goal

abbrev pub decreases-rows_between : goal.decreases-rows_between
decreases-rows_between g l = 2 * l.count

abbrev pub decreases-join+arg2 : goal.decreases-join+arg2
decreases-join+arg2 g l = 2 * l.half + 1

abbrev pub decreases-join+arg3 : goal.decreases-join+arg3
decreases-join+arg3 g l = 2 * l.others + 1
