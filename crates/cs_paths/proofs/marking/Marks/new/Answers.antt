-- No bit is set.
use Rattle.cs_paths.proofs.MarkLemmas.{none_filled, none_marked}
use Rattle.cs_paths.proofs.marking.Marks.new.Goals as goal

pub invariant_of-result : goal.invariant_of-result
invariant_of-result c = none_filled

pub returns : goal.returns
returns c = none_marked 64
