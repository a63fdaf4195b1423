-- Each turn marks one vertex more.
use Rattle.std.proofs.Common.{◌<◌, is_none}
use Rattle.std.specs.List.{count_by}
use Rattle.cs_diff.proofs.climb.meeting.Given as goal

abbrev pub invariant-loop-reading : goal.invariant-loop-reading
invariant-loop-reading l = l.at < l.sys.vertices

abbrev pub decreases-loop-reading : goal.decreases-loop-reading
decreases-loop-reading l = count_by is_none l.marks
