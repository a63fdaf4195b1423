use Rattle.std.proofs.Common.{◌∙◌, ap}
use Rattle.cs_stream.specs.Rows.{rows_of}
use Rattle.cs_stream.specs.Reading.{first_fault}
use Rattle.cs_stream.proofs.PrintLemmas.{lines_of-response_text, stimulus_rows-response_text, first_fault_printed, width_of_rows}
use Rattle.cs_stream.proofs.laws.printed_reads_back.Goals as goal

pub returns-clause-faultless : goal.returns-clause-faultless
returns-clause-faultless c =
    let s = c.args.rows.now in
    ap (first_fault s.width 1) (lines_of-response_text (rows_of s))
    ∙ first_fault_printed s.count s.width 1 s.bits s.whole

pub returns-clause-rows : goal.returns-clause-rows
returns-clause-rows c = stimulus_rows-response_text (rows_of c.args.rows.now)

pub returns-clause-width : goal.returns-clause-width
returns-clause-width c =
    let s = c.args.rows.now in
    λ some. width_of_rows s.count s.width s.bits s.whole some
