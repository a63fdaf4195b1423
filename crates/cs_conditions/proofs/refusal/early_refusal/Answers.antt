use Rattle.std.proofs.Common.{◌≡◌, ◌∙◌, IfOk, subst, sym}
use Rattle.cs_conditions.proofs.Refusals.{class_first, wiring_next}
use Rattle.cs_conditions.proofs.refusal.early_refusal.Goals as goal

pub returns-in-Some : goal.returns-in-Some
returns-in-Some c = class_first c.args.top.now c.in-Some.error (sym c.in_ok-error.ensures ∙ c.in-Some.is)

pub returns : goal.returns
returns c =
    subst (λ e. IfOk c.wiring_refusal.result (λ found. found ≡ e))
    (wiring_next c.args.top.now (sym c.in_ok-error.ensures ∙ c.in_default.is)) c.wiring_refusal.ensures
