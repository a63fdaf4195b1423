-- All clauses are within the number.
use Rattle.std.proofs.Common.{◌≡◌, Some, length, ap, sym, subst, arith}
use Rattle.std.specs.List.{slice_get}
use Rattle.std.proofs.lemmas.Option.{slice_get_within}
use Rattle.cs_base.specs.declared.formula.Clause.{Clause as Lits}
use Rattle.cs_sat_tests.proofs.Lists.{all_of}
use Rattle.cs_sat_tests.proofs.formulas.is_in_range.Goals as goal

pub returns : goal.returns
returns c _ =
    all_of _ c.args.f.now.clauses (λ i clause found.
    let within = slice_get_within c.args.f.now.clauses i clause found in
    c.loop-clause.invariant i clause (omega (arith, ap length c.as_slice-clause-items.ensures))
    (subst (λ cs. slice_get cs i ≡ Some clause) (sym c.as_slice-clause-items.ensures) found))
