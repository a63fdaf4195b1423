use Rattle.cs_prefix.proofs.RunLemmas.{rising_of_sort}
use Rattle.cs_prefix.proofs.runs.sorted_codes.Goals as goal

pub returns-clause-sorted : goal.returns-clause-sorted
returns-clause-sorted c = rising_of_sort c.sort.new.self.items c.in_ok-sort.ensures.sorted
