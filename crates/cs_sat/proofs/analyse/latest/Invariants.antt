-- The latest place of the literals so far.
use Rattle.std.proofs.Common.{take}
use Rattle.cs_sat.specs.Analyses.{IsLatest}
use Rattle.cs_sat.proofs.analyse.latest.Given as goal

abbrev pub invariant-loop-lit : goal.invariant-loop-lit
invariant-loop-lit l = IsLatest l.trail.steps.items (take l.lit-index l.lits) l.top
