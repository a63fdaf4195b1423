use Rattle.std.proofs.Common.{◌≡◌, take}
use Rattle.cs_stream.specs.Rows.{rows_of}
use Rattle.cs_stream.specs.Printing.{response_text}
use Rattle.cs_stream.proofs.printing.print_response.Given as goal

abbrev pub invariant-loop-place : goal.invariant-loop-place
invariant-loop-place l = l.text.items ≡ response_text (take l.place (rows_of l.rows))
