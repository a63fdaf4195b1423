-- Nothing is met.
use Rattle.cs_order.proofs.SearchLemmas.{begun_by}
use Rattle.cs_order.proofs.search.Search.new.Goals as goal

pub returns-clause-search : goal.returns-clause-search
returns-clause-search c =
    begun_by c.args.graph.now c.len-vertices.result _ _ _ _ c.len-vertices.ensures
    (c.in_ok-vec.ensures.items_if_clones_equal (λ y h. h))
    (c.in_ok-vec-2.ensures.items_if_clones_equal (λ y h. h)) c.new.ensures.items c.new-2.ensures.items
