use Rattle.std.proofs.Common.{◌≡◌, ◌↔◌, List, Some, sym, subst, ◌∙◌, ap, rules, IsTrue}
use Rattle.std.specs.Prelude.{pos, ◌<ℤ◌, slice_get}
use Rattle.cs_cert.specs.declared.step.Step.{Step}
use Rattle.cs_cert.specs.Steps.{IsValidCycle, Lead, total_cost}
use Rattle.cs_cert.proofs.SoundLemmas.{cycle_refutes}
use Rattle.cs_cert.proofs.StepLemmas.{cycle_from_first}
use Rattle.cs_cert.proofs.cycle.check_cycle.Goals as goal

exactly : (c : goal.After-leads_below) → IsTrue c.leads_below.result
    ↔ IsValidCycle c.args.machine.now c.args.delays.now c.args.mode c.args.bound c.args.cycle.now.steps
exactly c =
    let g = c.args.machine.now in
    let ds = c.args.delays.now in
    let mode = c.args.mode in
    let bound = c.args.bound in
    let steps = c.args.cycle.now.steps in
    let reach = c.in-Some-reach_of.reach in
    let here : c.as_slice-steps.result.now ≡ steps = c.as_slice-steps.ensures in
    let first : slice_get steps 0 ≡ Some c.in-Some.first.now =
    ap (λ (ss : List Step). slice_get ss 0) (sym here) ∙ (search rules) in
    let said = subst (λ (ss : List Step). IsTrue c.leads_below.result ↔ (Lead g ds mode bound reach.from ss reach.from × (total_cost g ss <ℤ pos 0))) here c.leads_below.ensures in
    let is = cycle_from_first g ds mode bound steps c.in-Some.first.now reach.from reach.to first c.in-Some-reach_of.ensures.goes in
    (λ holds. is.1 (said.0 holds), λ cycle. said.1 (is.0 cycle))

pub returns-in-Some-reach_of-clause-exact : goal.returns-in-Some-reach_of-clause-exact
returns-in-Some-reach_of-clause-exact c = exactly c

pub returns-in-Some-reach_of-clause-sound : goal.returns-in-Some-reach_of-clause-sound
returns-in-Some-reach_of-clause-sound c is_valid lags legal within =
    cycle_refutes c.args.machine.now c.args.delays.now c.args.mode c.args.bound lags legal within c.args.cycle.now.steps
    ((exactly c).0 is_valid)
