-- The literals from the end so far have no value any more.
use Rattle.std.proofs.Common.{vec_len}
use Rattle.cs_rup.specs.Trails.{IsUndone}
use Rattle.cs_rup.proofs.trail.Trail.undo.Given as goal

abbrev pub invariant-loop-lit : goal.invariant-loop-lit
invariant-loop-lit l = IsUndone l.initial.self l.self

abbrev pub decreases-loop-lit : goal.decreases-loop-lit
decreases-loop-lit l = vec_len l.self.lits
