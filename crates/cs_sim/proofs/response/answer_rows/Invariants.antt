use Rattle.std.proofs.Common.{◌≡◌, length}
use Rattle.cs_stream.specs.Rows.{rows_of}
use Rattle.cs_sim.proofs.RunLemmas.{HasAnswered}
use Rattle.cs_sim.proofs.response.answer_rows.Given as goal

abbrev pub invariant-loop-place : goal.invariant-loop-place
invariant-loop-place l =
    HasAnswered l.fn.sim.net (rows_of l.stimulus) l.width l.place l.bits.items l.sim × (length l.output.items ≡ l.width)
