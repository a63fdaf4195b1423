use Rattle.cs_diff.proofs.GreatestLemmas.{greatest_exists}
use Rattle.cs_diff.proofs.laws.greatest_exists.Goals as goal

pub returns : goal.returns
returns c s caps some = greatest_exists s caps some
