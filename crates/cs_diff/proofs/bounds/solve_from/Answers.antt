-- A loop among the settled constraints leaves no solution.
use Rattle.std.proofs.lemmas.Result.{err_from_is_err_and}
use Rattle.cs_diff.proofs.SolveLemmas.{explains}
use Rattle.cs_diff.proofs.bounds.solve_from.Goals as goal

pub returns-in_err-settle-clause-err : goal.returns-in_err-settle-clause-err
returns-in_err-settle-clause-err c =
    let p = err_from_is_err_and c.from_residual.result c.from_residual.ensures.1 in
    rw (p.1, p.2) (explains c.args.sys.now c.in_err-settle.field-0.0 c.in_err-settle.ensures.err)
