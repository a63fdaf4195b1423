-- What is kept of the pair.
use Rattle.std.proofs.Common.{subst}
use Rattle.cs_paths.specs.Rows.{IsPairAt}
use Rattle.cs_paths.proofs.RowLemmas.{pair_kept, pair_read}
use Rattle.cs_paths.proofs.tracing.Rows.at.Goals as goal

pub returns-clause-pair : goal.returns-clause-pair
returns-clause-pair c g delays are =
    let kept = pair_read c.self.inside.rows.items c.args.self.now c.as_slice.result.now c.index-row.result.now
    c.get.result c.get-2.result c.args.u c.args.v _ c.get-3.result c.self.view_is c.self.invariant c.get.ensures
    c.get-2.ensures c.requires.from c.requires.to c.index-row.ensures c.as_slice.ensures c.get-3.ensures in
    subst (IsPairAt g delays c.args.u c.args.v) kept
    (pair_kept g delays c.args.self.now c.args.u c.args.v are c.requires.from c.requires.to)
