use Rattle.std.proofs.Common.{length}
use Rattle.cs_lower.specs.Lowered.{trail_of}
use Rattle.cs_lower.specs.Reaches.{IsUnheld}
use Rattle.cs_lower.proofs.ReachLemmas.{IsCollected}
use Rattle.cs_lower.proofs.trails.Trails.passed.Given as goal

-- the starts so far come, turned round, after those that are left
abbrev pub invariant-loop-bit : goal.invariant-loop-bit
invariant-loop-bit l =
    IsCollected (trail_of l.self l.fn.tap).contents (trail_of l.self l.at).contents l.starts.items × IsUnheld l.at

-- each register is passed once
abbrev pub decreases-loop-bit : goal.decreases-loop-bit
decreases-loop-bit l = length (trail_of l.self l.at).contents
