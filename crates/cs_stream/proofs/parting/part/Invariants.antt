use Rattle.std.proofs.Common.{◌≡◌, ◌*◌, ◌≤◌, length, take}
use Rattle.cs_base.specs.Parts.{part}
use Rattle.cs_stream.specs.Rows.{rows_of, rows_within}
use Rattle.cs_stream.proofs.parting.part.Given as goal

-- the bits are those of the part of the rows before `place`
abbrev pub invariant-loop-place : goal.invariant-loop-place
invariant-loop-place l = record {
  rows : rows_within l.count l.rows.width l.bits.items ≡ part l.k l.c (take l.place (rows_of l.rows));
  whole : length l.bits.items ≡ l.count * l.rows.width;
  few : l.count ≤ l.place;
}
