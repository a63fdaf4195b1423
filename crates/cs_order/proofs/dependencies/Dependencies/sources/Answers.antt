-- There are as many rows as starts.
use Rattle.std.proofs.Common.{length, ap, arith}
use Rattle.cs_order.proofs.RowLemmas.{count_of_rows}
use Rattle.cs_order.proofs.dependencies.Dependencies.sources.Goals as goal

pub row-requires-clause-within : goal.row-requires-clause-within
row-requires-clause-within c =
    let count = count_of_rows c.self.inside.starts.items c.self.inside.sources.items in
    omega (arith, count, ap length c.self.view_is)
