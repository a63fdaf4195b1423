-- A row more.
use Rattle.cs_order.proofs.RowLemmas.{rows_push_row, are_rows_push_row}
use Rattle.cs_order.proofs.dependencies.Dependencies.push_vertex.Goals as goal

pub invariant_of-self-2 : goal.invariant_of-self-2
invariant_of-self-2 c =
    let inside = c.self.inside in
    rw (c.in_ok-push.ensures.items, c.len.ensures, inside.sources.ok.0)
    (are_rows_push_row inside.starts.items _ c.self.invariant)

pub returns-clause-ok : goal.returns-clause-ok
returns-clause-ok c =
    let inside = c.self.inside in
    rw (c.in_ok-push.ensures.items, c.len.ensures, inside.sources.ok.0, ← c.self.view_is)
    (rows_push_row inside.starts.items inside.sources.items)
