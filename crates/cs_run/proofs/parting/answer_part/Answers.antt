use Rattle.std.proofs.Common.{subst}
use Rattle.cs_stream.specs.Reading.{fault_of as stimulus_fault}
use Rattle.cs_run.specs.Part.{MakesPart, RefusesPart}
use Rattle.cs_run.specs.Reasons.{HasNoRows, StopsFor}
use Rattle.cs_run.proofs.StopLemmas.{handed_on}
use Rattle.cs_run.proofs.parting.answer_part.Goals as goal

pub returns-in_err-rows : goal.returns-in_err-rows
returns-in_err-rows c =
    let bytes = c.args.bytes.now in
    let stop = c.in_err-rows.field-0.0 in
    handed_on (MakesPart c.args.words.now bytes) (RefusesPart bytes) stop c.from_residual.result c.from_residual.ensures.1
    (subst (λ w. StopsFor (HasNoRows (stimulus_fault w bytes)) stop) c.width_of.ensures c.in_err-rows.ensures.err)
