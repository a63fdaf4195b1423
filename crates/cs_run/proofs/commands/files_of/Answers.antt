use Rattle.std.proofs.Common.{◌≡◌, ◌++◌, ◌∙◌, [], ap, drop, sym}
use Rattle.std.proofs.lemmas.List.{append-nil, drop_all}
use Rattle.cs_run.specs.Inputs.{files_of}
use Rattle.cs_run.proofs.commands.files_of.Goals as goal

pub returns : goal.returns
returns c =
    let names = c.args.names.now in
    let none : drop c.loop-name.name-index names ≡ [] = drop_all c.loop-name.name-index names c.loop-name-test.false in
    sym (append-nil c.loop-name.reads)
    ∙ ap (λ rest. c.loop-name.reads ++ files_of c.args.role rest) (sym none)
    ∙ c.loop-name.invariant
