use Rattle.std.proofs.Common.{◌≡◌, ◌++◌, map, take}
use Rattle.cs_stream.specs.Printing.{bit_byte}
use Rattle.cs_stream.proofs.printing.push_row.Given as goal

abbrev pub invariant-loop-bit : goal.invariant-loop-bit
invariant-loop-bit l = l.text.items ≡ l.initial.text.items ++ map bit_byte (take l.bit-index l.row)
