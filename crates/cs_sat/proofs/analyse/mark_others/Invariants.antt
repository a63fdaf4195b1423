-- The literals so far are marked.
use Rattle.std.proofs.Common.{take}
use Rattle.cs_sat.specs.Analyses.{AreMarkedFalse}
use Rattle.cs_sat.proofs.analyse.mark_others.Given as goal

abbrev pub invariant-loop-lit : goal.invariant-loop-lit
invariant-loop-lit l =
    AreMarkedFalse l.trail l.level l.lowest (take l.lit-index l.lits) l.skip l.initial.marks l.marks l.low
