use Rattle.std.proofs.Common.{◌≡◌, ◌*◌, ◌^◌, ◌≤◌, sum, take}
use Rattle.cs_stream.specs.Mixing.{counts_of}
use Rattle.cs_stream.proofs.mixing.total_count.Given as goal

abbrev pub invariant-loop-stream : goal.invariant-loop-stream
invariant-loop-stream l = record {
  total : l.total ≡ sum (counts_of (take l.stream-index l.streams));
  few : l.total ≤ l.stream-index * 2 ^ 32;
}
