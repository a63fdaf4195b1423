use Rattle.cs_net.proofs.OneRefusal.{one_refusal}
use Rattle.cs_net.proofs.laws.one_refusal.Goals as goal

pub returns : goal.returns
returns c = one_refusal
