use Rattle.std.proofs.Common.{◌≡◌, ◌++◌, map, take}
use Rattle.cs_stream.specs.Reading.{is_one}
use Rattle.cs_stream.proofs.reading.push_line.Given as goal

abbrev pub invariant-loop-byte : goal.invariant-loop-byte
invariant-loop-byte l = l.bits.items ≡ l.initial.bits.items ++ map is_one (take l.byte-index l.line)
