use Rattle.std.proofs.Common.{◌≡◌, [], drop, subst, sym}
use Rattle.std.proofs.lemmas.List.{append-nil, drop_all}
use Rattle.cs_run.specs.Inputs.{FilesHave}
use Rattle.cs_run.proofs.RunLemmas.{input_ends}
use Rattle.cs_run.proofs.inputs.read_inputs.Goals as goal

pub returns : goal.returns
returns g c =
    let names = c.args.reads.now in
    let files = (g.S.Store.state c.args.store.now).files in
    let none : drop c.loop-read.read-index names ≡ [] = drop_all c.loop-read.read-index names c.loop-read-test.false in (
      c.loop-read.invariant.stays,
      subst (λ inputs. FilesHave files names inputs) (append-nil c.loop-read.inputs)
          (c.loop-read.invariant.later [] (subst (λ rest. FilesHave files rest []) (sym none) tt)),
    )

pub returns-in_err-bytes : goal.returns-in_err-bytes
returns-in_err-bytes g c =
    input_ends c.args.reads.now c.loop-read.read-index c.read-item.result (g.S.Store.state c.args.store.now) (g.S.Store.state c.loop-read.store)
    (g.S.Store.state c.read_input.new.store) c.in_err-bytes.field-0.0 c.from_residual.result c.loop-read-test.true c.read-item.is
    c.loop-read.invariant.stays c.from_residual.ensures.1 c.loop-read.invariant.long c.loop-read.invariant.reached c.in_err-bytes.ensures
