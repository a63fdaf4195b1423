use Rattle.std.proofs.Common.{length}
use Rattle.cs_lower.proofs.TableLemmas.{IsNotingFrom}
use Rattle.cs_lower.specs.Tables.{held}
use Rattle.cs_lower.proofs.reaches.note_path.Given as goal

-- the reach behind what is left of the path is noted
abbrev pub invariant-loop-bit : goal.invariant-loop-bit
invariant-loop-bit l =
    IsNotingFrom l.net (held l.initial.table) (held l.table) l.from l.path.items l.reach

abbrev pub decreases-loop-bit : goal.decreases-loop-bit
decreases-loop-bit l = length l.path.items
