-- What the law of banking says of a slowed machine.
use Rattle.std.proofs.Common.{◌∙◌, sym, ap, subst}
use Rattle.cs_bank.specs.Alone.{AnswersEachAlone}
use Rattle.cs_bank.specs.Bank.{CanBank, bank}
use Rattle.cs_bank.proofs.Answered.{answers_each_alone}
use Rattle.cs_bank.proofs.banking.bank.Goals as goal

pub returns-clause-alone : goal.returns-clause-alone
returns-clause-alone c = λ g is same.
    let contexts = c.args.contexts in
    let entries = c.args.images.now.of in
    subst (AnswersEachAlone contexts entries g)
    (sym (c.in_ok-banked_or_copy.ensures ∙ ap (bank contexts entries) same))
    (answers_each_alone g is contexts entries (subst (CanBank contexts entries) same c.requires))
