-- The last open literal of a unit clause is set.
use Rattle.std.proofs.Common.{◌++◌, subst}
use Rattle.cs_base.proofs.ListLemmas.{at_contains}
use Rattle.cs_sat.specs.Looks.{Asks}
use Rattle.cs_sat.proofs.Reasons.{over_implied}
use Rattle.cs_sat.proofs.propagate.follow.Goals as goal

pub imply-requires-clause-within : goal.imply-requires-clause-within
imply-requires-clause-within c =
    let clause = c.requires.asks.0 in
    let one = subst (λ status. Asks c.args.trail.now clause.lits status) c.in-Unit.is c.requires.asks.2 in
    c.requires.over.within clause (at_contains (c.args.base.now ++ c.args.store.now.lines) c.args.number clause c.requires.asks.1)
    c.in-Unit.lit one.among

pub returns-in_err-imply-in-Unit-clause-over : goal.returns-in_err-imply-in-Unit-clause-over
returns-in_err-imply-in-Unit-clause-over c =
    let clause = c.requires.asks.0 in
    over_implied (c.args.base.now ++ c.args.store.now.lines) c.args.trail.now c.imply.new.self c.in-Unit.lit c.args.number clause
    c.imply.result c.imply.ensures.trail c.imply.ensures.size c.requires.asks.1
    (subst (λ status. Asks c.args.trail.now clause.lits status) c.in-Unit.is c.requires.asks.2)
    c.requires.over c.imply.ensures.ok c.imply.ensures.err

pub returns-in_ok-imply-in-Unit-clause-over : goal.returns-in_ok-imply-in-Unit-clause-over
returns-in_ok-imply-in-Unit-clause-over c =
    let clause = c.requires.asks.0 in
    over_implied (c.args.base.now ++ c.args.store.now.lines) c.args.trail.now c.imply.new.self c.in-Unit.lit c.args.number clause
    c.imply.result c.imply.ensures.trail c.imply.ensures.size c.requires.asks.1
    (subst (λ status. Asks c.args.trail.now clause.lits status) c.in-Unit.is c.requires.asks.2)
    c.requires.over c.imply.ensures.ok c.imply.ensures.err
