-- The literals so far are covered.
use Rattle.std.proofs.Common.{take}
use Rattle.cs_sat.specs.Analyses.{AreCovered}
use Rattle.cs_sat.proofs.shorten.are_covered.Given as goal

abbrev pub invariant-loop-lit : goal.invariant-loop-lit
invariant-loop-lit l = AreCovered l.trail l.marks (take l.lit-index l.lits) l.skip
