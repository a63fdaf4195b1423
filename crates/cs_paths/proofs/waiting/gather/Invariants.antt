-- The places that are left are yet to be marked.
use Rattle.std.proofs.Common.{length}
use Rattle.cs_paths.proofs.WaitingLemmas.{IsGathering}
use Rattle.cs_paths.proofs.waiting.gather.Given as goal

abbrev pub invariant-loop-place : goal.invariant-loop-place
invariant-loop-place l = IsGathering l.initial.bucket l.bucket l.initial.marks l.marks

abbrev pub decreases-loop-place : goal.decreases-loop-place
decreases-loop-place l = length l.bucket
