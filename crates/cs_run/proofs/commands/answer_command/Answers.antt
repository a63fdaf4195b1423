use Rattle.std.proofs.Common.{◌∙◌, ap, length, subst, sym}
use Rattle.std.specs.Prelude.{Err}
use Rattle.cs_run.specs.Commands.{Makes, MakesRight, Refuses}
use Rattle.cs_run.specs.Inputs.{AreFew, FilesHave, all_bytes}
use Rattle.cs_run.specs.Reasons.{Answers}
use Rattle.cs_run.specs.Runs.{ReadsInputs}
use Rattle.cs_run.proofs.InputLemmas.{all_inputs, few_bytes}
use Rattle.cs_run.proofs.RunLemmas.{answered, ended_as}
use Rattle.cs_run.proofs.commands.answer_command.Goals as goal

pub returns-in_err-inputs : goal.returns-in_err-inputs
returns-in_err-inputs g c =
    let old = g.S.Store.state c.args.store.now in
    let new = g.S.Store.state c.read_inputs.new.store in
    let stop = c.in_err-inputs.field-0.0 in
    ended_as c.args.command.now old new stop c.from_residual-in_err-inputs.result c.from_residual-in_err-inputs.ensures.1
    (subst (λ n. ReadsInputs old new n (Err stop)) (c.as_slice.ensures ∙ c.in_ok-reads.ensures) c.in_err-inputs.ensures)

pub answer_inputs-requires-clause-all : goal.answer_inputs-requires-clause-all
answer_inputs-requires-clause-all g c =
    ap length c.as_slice-2.ensures
    ∙ all_inputs (g.S.Store.state c.args.store.now).files c.as_slice.result.now c.in_ok-inputs.inputs c.in_ok-inputs.ensures.1
    ∙ ap length (c.as_slice.ensures ∙ c.in_ok-reads.ensures)

pub answer_inputs-requires-clause-few : goal.answer_inputs-requires-clause-few
answer_inputs-requires-clause-few g c =
    subst (λ i. AreFew (all_bytes i)) (sym c.as_slice-2.ensures)
    (few_bytes (g.S.Store.state c.args.store.now).files c.as_slice.result.now c.in_ok-inputs.inputs c.in_ok-inputs.ensures.1)

pub returns : goal.returns
returns g c =
    let command = c.args.command.now in
    let files = (g.S.Store.state c.args.store.now).files in
    answered command (g.S.Store.state c.args.store.now) (g.S.Store.state c.read_inputs.new.store) c.in_ok-inputs.inputs c.answer_inputs.result
    c.in_ok-inputs.ensures.0
    (subst (λ n. FilesHave files n c.in_ok-inputs.inputs) (c.as_slice.ensures ∙ c.in_ok-reads.ensures) c.in_ok-inputs.ensures.1)
    (subst (λ i. Answers (λ reply. Makes command i reply × MakesRight command i) (Refuses command i) c.answer_inputs.result)
    c.as_slice-2.ensures c.answer_inputs.ensures)
