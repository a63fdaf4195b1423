use Rattle.cs_share.proofs.OneEmission.{one_emission}
use Rattle.cs_share.proofs.laws.emissions_are_one.Goals as goal

pub returns : goal.returns
returns c = one_emission
