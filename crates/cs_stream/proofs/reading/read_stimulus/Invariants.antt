use Rattle.std.proofs.Common.{◌≡◌, ◌++◌, ◌+◌, ◌*◌, ◌≤◌, length}
use Rattle.cs_stream.specs.Rows.{rows_within}
use Rattle.cs_stream.specs.Lines.{lines_of}
use Rattle.cs_stream.specs.Reading.{first_fault, fault_of, stimulus_rows}
use Rattle.cs_stream.proofs.reading.read_stimulus.Given as goal

-- the lines before `rest` are rows without a fault
abbrev pub invariant-loop-rest : goal.invariant-loop-rest
invariant-loop-rest l = record {
  rows : stimulus_rows l.bytes ≡ rows_within l.count l.width l.bits.items ++ stimulus_rows l.rest;
  fault : fault_of l.width l.bytes ≡ first_fault l.width (l.count + 1) (lines_of l.rest);
  whole : length l.bits.items ≡ l.count * l.width;
  few : l.count + length l.rest ≤ length l.bytes;
}

abbrev pub decreases-loop-rest : goal.decreases-loop-rest
decreases-loop-rest l = length l.rest
