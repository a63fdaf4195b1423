use Rattle.std.proofs.Common.{◌≡◌, ◌++◌, List, drop}
use Rattle.cs_stream.specs.declared.stimulus.Stimulus.{Stimulus}
use Rattle.cs_run.specs.Inputs.{all_bytes}
use Rattle.cs_run.specs.Mix.{stream_fault}
use Rattle.cs_run.specs.Rows.{AreRowsOfStreams}
use Rattle.cs_run.proofs.mixing.read_streams.Given as goal

-- what is read, with rows of the later streams, are rows of all; and the first fault is among the later streams
abbrev pub invariant-loop-stream : goal.invariant-loop-stream
invariant-loop-stream l = record {
  later : (rest : List Stimulus) → AreRowsOfStreams l.width (all_bytes (drop l.stream-index l.streams)) rest
      → AreRowsOfStreams l.width (all_bytes l.streams) (l.rows ++ rest);
  fault : stream_fault l.width (all_bytes l.streams) ≡ stream_fault l.width (all_bytes (drop l.stream-index l.streams));
}
