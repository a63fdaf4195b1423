-- What the marks stand for still meets a conflict.
use Rattle.std.proofs.Common.{ℕ, ◌++◌}
use Rattle.cs_sat.specs.Analyses.{IsResolved}
use Rattle.cs_sat.proofs.shorten.shorten.Given as goal

abbrev pub invariant-loop-index : goal.invariant-loop-index
invariant-loop-index l = (level : ℕ) → IsResolved (l.base ++ l.lines) l.trail level l.at l.initial.marks l.at
    → IsResolved (l.base ++ l.lines) l.trail level l.at l.marks l.at
