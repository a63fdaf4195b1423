-- One clause more has a true literal, or it is falsified.
use Rattle.std.proofs.Common.{◌≡◌, Some, length, sym, subst, ap, arith}
use Rattle.std.specs.List.{Contains, slice_get}
use Rattle.std.proofs.lemmas.Option.{slice_get_within}
use Rattle.cs_base.proofs.ListLemmas.{contains_at}
use Rattle.cs_base.specs.declared.formula.Clause.{Clause as Lits}
use Rattle.cs_sat.specs.Looks.{HasTrue}
use Rattle.cs_sat.proofs.Searches.{conflict_all_set, places_more, read_at}
use Rattle.cs_sat.proofs.search.Search.falsified.Goals as goal

pub returns-then-not-has_true-clause-some : goal.returns-then-not-has_true-clause-some
returns-then-not-has_true-clause-some c =
    let clause = c.clause-item.result in
    let found : slice_get c.args.f.now.clauses c.loop-number.number ≡ Some clause =
    read_at _ c.args.f.now.clauses c.loop-number.number clause c.as_slice-clause-items.ensures (omega arith) c.clause-item.is in
    conflict_all_set c.args.f.now c.args.self.now c.loop-number.number clause c.requires.in_range c.requires.search
    c.requires.all_set found
    (λ lit has. c.has_true.ensures.no c.if-not-has_true.true lit (subst (λ xs. Contains xs lit) (sym c.as_slice.ensures) has))

pub loop-number-preserved : goal.loop-number-preserved
loop-number-preserved c =
    let clause = c.clause-item.result in
    let found : slice_get c.args.f.now.clauses c.loop-number.number ≡ Some clause =
    read_at _ c.args.f.now.clauses c.loop-number.number clause c.as_slice-clause-items.ensures (omega arith) c.clause-item.is in
    places_more (λ (one : Lits). HasTrue c.args.self.now.trail one.lits) c.args.f.now.clauses c.loop-number.number clause found
    c.loop-number.invariant
    (subst (λ xs. HasTrue c.args.self.now.trail xs) c.as_slice.ensures (c.has_true.ensures.yes c.if-not-has_true.false))

pub returns-clause-none : goal.returns-clause-none
returns-clause-none c clause has =
    let at = contains_at c.args.f.now.clauses clause has in
    let within = slice_get_within c.args.f.now.clauses at.0 clause at.1 in
    c.loop-number.invariant at.0 clause (omega (arith, ap length c.as_slice-clause-items.ensures)) at.1
