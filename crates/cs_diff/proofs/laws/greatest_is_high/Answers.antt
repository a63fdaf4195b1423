use Rattle.cs_diff.proofs.BoundLemmas.{greatest_is_high}
use Rattle.cs_diff.proofs.laws.greatest_is_high.Goals as goal

pub returns : goal.returns
returns c s a caps r wide high greatest = greatest_is_high s a wide caps r high greatest
