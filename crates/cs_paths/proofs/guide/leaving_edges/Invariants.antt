-- The first edges stand in the table.
use Rattle.cs_paths.proofs.GuideLemmas.{AreLeavingSoFar}
use Rattle.cs_paths.proofs.guide.leaving_edges.Given as goal

abbrev pub invariant-loop-number : goal.invariant-loop-number
invariant-loop-number l = AreLeavingSoFar l.machine l.number l.leaving.items
