use Rattle.cs_diff.proofs.BoundLemmas.{least_is_low}
use Rattle.cs_diff.proofs.laws.least_is_low.Goals as goal

pub returns : goal.returns
returns c s a root v least wide below is = least_is_low s a wide root v least below is
