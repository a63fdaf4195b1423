use Rattle.std.proofs.Common.{◌<◌, ◌≤◌, ◌++◌, ◌∙◌, length, take, ap, sym, arith}
use Rattle.std.proofs.lemmas.List.{take_all}
use Rattle.cs_stream.specs.Rows.{rows_of}
use Rattle.cs_stream.specs.Printing.{row_text, response_text}
use Rattle.cs_stream.proofs.RowLemmas.{length-rows_within}
use Rattle.cs_stream.proofs.PrintLemmas.{response_text_more}
use Rattle.cs_stream.proofs.printing.print_response.Goals as goal

pub loop-place-preserved : goal.loop-place-preserved
loop-place-preserved c =
    let s = c.args.rows.now in
    let within : c.loop-place.place < length (rows_of s) =
    omega (arith, length-rows_within s.count s.width s.bits) in
    c.in_ok-push_row.ensures
    ∙ ap (λ text. text ++ row_text c.row.result.now) c.loop-place.invariant
    ∙ ap (λ row. response_text (take c.loop-place.place (rows_of s)) ++ row_text row) c.row.ensures
    ∙ sym (response_text_more (rows_of s) c.loop-place.place within)

pub returns : goal.returns
returns c =
    let s = c.args.rows.now in
    let all : length (rows_of s) ≤ c.loop-place.place =
    omega (arith, length-rows_within s.count s.width s.bits) in
    record {
      text = c.loop-place.invariant
          ∙ ap response_text (take_all c.loop-place.place (rows_of s) all);
    }
