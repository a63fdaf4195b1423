use Rattle.cs_bank.proofs.Answered.{answers_each_alone}
use Rattle.cs_bank.proofs.laws.contexts_in_banks.Goals as goal

pub returns : goal.returns
returns c = λ g contexts entries is can. answers_each_alone g is contexts entries can
