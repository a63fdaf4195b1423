-- The row of a place.
use Rattle.std.proofs.Common.{sym, length, add-one}
use Rattle.cs_order.proofs.RowLemmas.{row_at, start_within}
use Rattle.cs_order.proofs.dependencies.row.Goals as goal

pub returns : goal.returns
returns c =
    let starts = c.args.starts.now in
    let items = c.args.items.now in
    rw (c.end_of-end.ensures, add-one, start_within starts c.args.index (length items) c.requires.within)
    (sym (row_at starts items c.args.index c.requires.within))
