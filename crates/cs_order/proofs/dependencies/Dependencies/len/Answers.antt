-- As many rows as starts.
use Rattle.std.proofs.Common.{length, arith, ap}
use Rattle.cs_order.proofs.RowLemmas.{count_of_rows}
use Rattle.cs_order.proofs.dependencies.Dependencies.len.Goals as goal

pub returns : goal.returns
returns c =
    let count = count_of_rows c.self.inside.starts.items c.self.inside.sources.items in
    omega (arith, count, ap length c.self.view_is)
