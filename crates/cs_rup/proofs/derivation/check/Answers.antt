-- The end and the lines make the derivation, which leaves no model.
use Rattle.std.proofs.Common.{subst, IfOk, ◌↔◌, IsTrue}
use Rattle.cs_base.specs.Derivations.{AreRup, EndsWithEmpty}
use Rattle.cs_rup.proofs.Derivations.{answered}
use Rattle.cs_rup.proofs.derivation.check.Goals as goal

pub returns-clause-no_model : goal.returns-clause-no_model
returns-clause-no_model c =
    answered c.args.f.now c.args.lines.now.lines c.are_rup.result
    (subst EndsWithEmpty c.as_slice.ensures (c.ends_with_empty.ensures.0 c.if-not-ends_with_empty.false))
    (subst (λ lines. IfOk c.are_rup.result (λ holds. IsTrue holds ↔ AreRup c.args.f.now.clauses lines)) c.as_slice-2.ensures
    c.are_rup.ensures)
