use Rattle.std.proofs.Common.{nat_eq, ◌∙◌}
use Rattle.indexmap.specs.IndexSet.{contains}
use Rattle.cs_lower.specs.Rings.{is_ring}
use Rattle.cs_lower.specs.Walks.{numbers}
use Rattle.cs_lower.proofs.SortLemmas.{chosen_in_order}
use Rattle.cs_lower.proofs.rings.rings.Goals as goal

pub returns : goal.returns
returns c =
    chosen_in_order (contains nat_eq c.in_ok-set.set) (is_ring c.args.wires.now) (numbers c.args.wires.now)
    c.as_slice.result.now c.as_slice-2.result.now c.in_ok-rings.rings.items c.sort_unstable.new.self.items
    (c.as_slice.ensures.value ∙ c.in_ok-numbers.ensures) (c.as_slice-2.ensures.value ∙ c.in_ok-numbers.ensures)
    c.in_ok-set.ensures c.in_ok-rings.ensures c.sort_unstable.ensures.permutation c.sort_unstable.ensures.sorted
