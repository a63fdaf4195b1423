-- An item more.
use Rattle.std.proofs.Common.{ap, length, arith}
use Rattle.std.proofs.lemmas.List.{length_push}
use Rattle.cs_order.proofs.RowLemmas.{count_of_rows, rows_push_item, are_rows_push_item}
use Rattle.cs_order.proofs.dependencies.Dependencies.push_source.Goals as goal

pub invariant_of-self-2 : goal.invariant_of-self-2
invariant_of-self-2 c =
    rw (c.in_ok-push.ensures.items, length_push)
    (are_rows_push_item c.self.inside.starts.items _ c.self.invariant)

pub returns-clause-ok : goal.returns-clause-ok
returns-clause-ok c =
    let inside = c.self.inside in
    let count = count_of_rows inside.starts.items inside.sources.items in
    rw (c.in_ok-push.ensures.items, ← c.self.view_is)
    (rows_push_item inside.starts.items inside.sources.items c.args.source
    (omega (arith, count, ap length c.self.view_is, c.requires.some)) c.self.invariant)
