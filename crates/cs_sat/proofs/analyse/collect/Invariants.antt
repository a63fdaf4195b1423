-- The literals at the marked places so far are taken in.
use Rattle.std.proofs.Common.{take}
use Rattle.cs_sat.specs.Analyses.{IsCollected}
use Rattle.cs_sat.proofs.analyse.collect.Given as goal

abbrev pub invariant-loop-place : goal.invariant-loop-place
invariant-loop-place l =
    IsCollected l.trail l.marks l.level l.at (take l.place-index l.marks.touched.items) l.learned
