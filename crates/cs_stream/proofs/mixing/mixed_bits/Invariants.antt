use Rattle.std.proofs.Common.{◌≡◌, ◌*◌, length, map}
use Rattle.std.specs.List.{range_with_len}
use Rattle.cs_stream.specs.Rows.{rows_of, rows_within}
use Rattle.cs_stream.specs.Mixing.{mixed_row}
use Rattle.cs_stream.proofs.mixing.mixed_bits.Given as goal

-- the bits are those of the mixed rows before `place`
abbrev pub invariant-loop-place : goal.invariant-loop-place
invariant-loop-place l = record {
  rows : rows_within l.place l.width l.bits.items
      ≡ map (mixed_row (map rows_of l.streams)) (range_with_len 0 l.place);
  whole : length l.bits.items ≡ l.place * l.width;
}
