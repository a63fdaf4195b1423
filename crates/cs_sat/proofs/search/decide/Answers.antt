-- A right verdict is a model or a derivation, and refutes exactly where there is no model.
use Rattle.std.proofs.Common.{◌↔◌}
use Rattle.cs_base.specs.Derivations.{IsDerivation}
use Rattle.cs_base.specs.Formulas.{Assignment, IsModel}
use Rattle.cs_sat.specs.Verdicts.{IsModelOf, IfModel, IfRefuted, IsRefutation, IsRight}
use Rattle.cs_sat.proofs.Literals.{if_ok}
use Rattle.cs_sat.proofs.Soundness.{right_model, right_refuted, right_exact}
use Rattle.cs_sat.proofs.search.decide.Goals as goal

pub returns-clause-model : goal.returns-clause-model
returns-clause-model c =
    if_ok c.into_verdict.result (IsRight c.args.f.now) (λ verdict. IfModel verdict (IsModelOf c.args.f.now))
    (right_model c.args.f.now) c.into_verdict.ensures

pub returns-clause-derivation : goal.returns-clause-derivation
returns-clause-derivation c =
    if_ok c.into_verdict.result (IsRight c.args.f.now)
    (λ verdict. IfRefuted verdict (λ derivation. IsDerivation c.args.f.now derivation.lines)) (right_refuted c.args.f.now)
    c.into_verdict.ensures

pub returns-clause-exact : goal.returns-clause-exact
returns-clause-exact c =
    if_ok c.into_verdict.result (IsRight c.args.f.now)
    (λ verdict. IsRefutation verdict ↔ ((a : Assignment) → ¬ (IsModel a c.args.f.now))) (right_exact c.args.f.now)
    c.into_verdict.ensures
