use Rattle.std.proofs.Common.{◌≡◌, ◌+◌, ◌≤◌, ◌^◌, ◌↔◌, List, ◌∷◌, length, drop, ap, ◌∙◌, subst, arith, rules, to_z, of_z}
use Rattle.std.specs.Int.{w128}
use Rattle.std.specs.Prelude.{ℤ, pos, ◌+ℤ◌, ◌<ℤ◌}
use Rattle.std.proofs.lemmas.Int.{ints, to_z-of_z}
use Rattle.std.proofs.lemmas.List.{length-drop}
use Rattle.cs_cert.specs.declared.step.Step.{Step}
use Rattle.cs_cert.specs.Steps.{Lead, cost, total_cost}
use Rattle.cs_cert.proofs.StepLemmas.{leads_on, next_step, summed, too_dear, total_low}
use Rattle.cs_cert.proofs.cycle.leads_below.Goals as goal

pub returns-then-costs-gt-HIGHEST : goal.returns-then-costs-gt-HIGHEST
returns-then-costs-gt-HIGHEST c =
    let g = c.args.machine.now in
    let rest = drop c.loop-step.step-index c.args.steps.now in
    let costs = to_z w128 c.loop-step.costs-bits in
    let above : pos (2 ^ 64) <ℤ costs = search rules in
    let few : length rest ≤ 2 ^ 64 = omega (arith, length-drop c.loop-step.step-index c.args.steps.now) in (
      λ is. cc,
      λ (leads, negative). absurd (too_dear costs (total_cost g rest) (total_cost g c.args.steps.now) (2 ^ 64) (length rest)
          c.loop-step.invariant.costs above few (total_low g rest) negative),
    )

pub loop-step-preserved : goal.loop-step-preserved
loop-step-preserved c =
    let g = c.args.machine.now in
    let ds = c.args.delays.now in
    let mode = c.args.mode in
    let bound = c.args.bound in
    let first = c.args.vertex in
    let steps = c.args.steps.now in
    let i = c.loop-step.step-index in
    let step = c.step-item.result in
    let rest = drop (i + 1) steps in
    let reach = c.in-Some.reach in
    let next : drop i steps ≡ step ∷ rest = next_step steps i step c.step-item.is c.loop-step-test.true in
    let begins : reach.from ≡ c.loop-step.at = cc in
    let before : Lead g ds mode bound first steps first ↔ Lead g ds mode bound c.loop-step.at (step ∷ rest) first =
    subst (λ (left : List Step). Lead g ds mode bound first steps first ↔ Lead g ds mode bound c.loop-step.at left first)
    next c.loop-step.invariant.leads in
    let on = leads_on g ds mode bound step rest c.loop-step.at first reach.from reach.to c.in-Some.ensures.goes
    c.in-Some.ensures.valid begins in
    let sum = c.with_cost-costs.result in
    let costs = to_z w128 c.loop-step.costs-bits in
    let cost_is : to_z w128 (of_z w128 reach.cost) ≡ reach.cost = to_z-of_z w128 reach.cost (search rules) in
    let sum_is : to_z w128 (of_z w128 sum) ≡ sum = to_z-of_z w128 sum (search rules) in
    let total : total_cost g steps ≡ sum +ℤ total_cost g rest =
    summed (total_cost g steps) costs (cost g step) (total_cost g rest) sum
    (c.loop-step.invariant.costs ∙ ap (λ (left : List Step). costs +ℤ total_cost g left) next)
    (c.with_cost-costs.ensures ∙ ap (λ (z : ℤ). costs +ℤ z) (cost_is ∙ c.in-Some.ensures.cost)) in
    record {
      leads = (λ all. on.0 (before.0 all), λ after. before.1 (on.1 after));
      costs = rw sum_is total;
      low = rw sum_is (omega (arith, ints, c.with_cost-costs.ensures, cost_is, c.in-Some.ensures.range, c.loop-step.invariant.low));
      high = rw sum_is (omega (arith, ints, c.with_cost-costs.ensures, cost_is, c.in-Some.ensures.range, c.if-costs-gt-HIGHEST.false));
    }
