-- The last open literal of a unit clause is set.
use Rattle.std.proofs.Common.{◌≡◌, ◌++◌, Some, refl, sym, subst, ap, ◌∙◌}
use Rattle.std.specs.List.{slice_get}
use Rattle.cs_base.proofs.ListLemmas.{at_contains}
use Rattle.cs_base.specs.declared.formula.Clause.{Clause as Lits}
use Rattle.cs_sat.specs.Looks.{IsUnit}
use Rattle.cs_sat.specs.Trails.{AllFalse}
use Rattle.cs_sat.proofs.Reasons.{at_append, over_implied}
use Rattle.cs_sat.proofs.Searches.{read_at}
use Rattle.cs_sat.proofs.propagate.examine.Goals as goal

pub imply-requires-clause-within : goal.imply-requires-clause-within
imply-requires-clause-within c =
    let clause = c.index-base-number.result in
    let found : slice_get (c.args.base.now ++ c.args.store.now.lines) c.args.number ≡ Some clause =
    at_append c.args.base.now c.args.store.now.lines c.args.number clause
    (read_at c.args.base.now c.args.base.now c.args.number clause refl c.requires.within c.index-base-number.is) in
    let lits : c.as_slice.result.now ≡ clause.lits =
    c.as_slice.ensures ∙ ap (λ (one : Lits). one.lits) (sym c.index-base-number.is) in
    let one = subst (λ xs. IsUnit c.args.trail.now xs c.in-Unit.lit) lits c.in-Unit.ensures in
    c.requires.over.within clause (at_contains (c.args.base.now ++ c.args.store.now.lines) c.args.number clause found)
    c.in-Unit.lit one.among

pub returns-in_err-imply-in-Unit-clause-over : goal.returns-in_err-imply-in-Unit-clause-over
returns-in_err-imply-in-Unit-clause-over c =
    let clause = c.index-base-number.result in
    let found : slice_get (c.args.base.now ++ c.args.store.now.lines) c.args.number ≡ Some clause =
    at_append c.args.base.now c.args.store.now.lines c.args.number clause
    (read_at c.args.base.now c.args.base.now c.args.number clause refl c.requires.within c.index-base-number.is) in
    let lits : c.as_slice.result.now ≡ clause.lits =
    c.as_slice.ensures ∙ ap (λ (one : Lits). one.lits) (sym c.index-base-number.is) in
    over_implied (c.args.base.now ++ c.args.store.now.lines) c.args.trail.now c.imply.new.self c.in-Unit.lit c.args.number clause
    c.imply.result c.imply.ensures.trail c.imply.ensures.size found
    (subst (λ xs. IsUnit c.args.trail.now xs c.in-Unit.lit) lits c.in-Unit.ensures)
    c.requires.over c.imply.ensures.ok c.imply.ensures.err

pub returns-in_ok-imply-in-Unit-clause-over : goal.returns-in_ok-imply-in-Unit-clause-over
returns-in_ok-imply-in-Unit-clause-over c =
    let clause = c.index-base-number.result in
    let found : slice_get (c.args.base.now ++ c.args.store.now.lines) c.args.number ≡ Some clause =
    at_append c.args.base.now c.args.store.now.lines c.args.number clause
    (read_at c.args.base.now c.args.base.now c.args.number clause refl c.requires.within c.index-base-number.is) in
    let lits : c.as_slice.result.now ≡ clause.lits =
    c.as_slice.ensures ∙ ap (λ (one : Lits). one.lits) (sym c.index-base-number.is) in
    over_implied (c.args.base.now ++ c.args.store.now.lines) c.args.trail.now c.imply.new.self c.in-Unit.lit c.args.number clause
    c.imply.result c.imply.ensures.trail c.imply.ensures.size found
    (subst (λ xs. IsUnit c.args.trail.now xs c.in-Unit.lit) lits c.in-Unit.ensures)
    c.requires.over c.imply.ensures.ok c.imply.ensures.err

pub returns-in-Falsified-clause-conflict : goal.returns-in-Falsified-clause-conflict
returns-in-Falsified-clause-conflict c =
    let clause = c.index-base-number.result in
    let found : slice_get (c.args.base.now ++ c.args.store.now.lines) c.args.number ≡ Some clause =
    at_append c.args.base.now c.args.store.now.lines c.args.number clause
    (read_at c.args.base.now c.args.base.now c.args.number clause refl c.requires.within c.index-base-number.is) in
    let lits : c.as_slice.result.now ≡ clause.lits =
    c.as_slice.ensures ∙ ap (λ (one : Lits). one.lits) (sym c.index-base-number.is) in
    record {
      clause = clause;
      found = found;
      falsified = subst (λ xs. AllFalse c.args.trail.now xs) lits c.in-Falsified.ensures;
    }
