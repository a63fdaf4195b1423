-- There are no rows where there are no starts.
use Rattle.std.proofs.Common.{arith}
use Rattle.std.proofs.lemmas.Bool.Decides.{nat_tests}
use Rattle.cs_order.proofs.RowLemmas.{no_rows}
use Rattle.cs_order.proofs.dependencies.Dependencies.is_empty.Goals as goal

pub returns : goal.returns
returns c =
    let inside = c.self.inside in
    let none = no_rows inside.starts.items inside.sources.items in
    rw (← c.self.view_is, c.is_empty.ensures, inside.starts.ok.0)
    (λ is. none.1 (grind (arith, nat_tests)), λ is. let h = none.0 is in grind (arith, nat_tests))
