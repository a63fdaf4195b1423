use Rattle.std.proofs.Common.{◌≡◌, ℕ, ◌+◌, ◌*◌, ◌^◌, ◌↔◌, List, ◌∷◌, drop, sym, subst, rules, arith}
use Rattle.std.specs.List.{count_by}
use Rattle.std.specs.Prelude.{is_none}
use Rattle.cs_cert.specs.declared.step.Step.{Step}
use Rattle.cs_cert.specs.Floors.{AreBoundBy, AreNear, IsBoundBy}
use Rattle.cs_cert.proofs.FloorLemmas.{near_wider}
use Rattle.cs_cert.proofs.BoundLemmas.{bounds_on}
use Rattle.cs_cert.proofs.StepLemmas.{next_step}
use Rattle.cs_cert.proofs.floors.take_steps.Goals as goal

pub take_step-requires : goal.take_step-requires
take_step-requires c = record {
  near = near_wider (c.loop-step.step-index * 2 ^ 98) (2 ^ 112) c.loop-step.least (omega arith) c.loop-step.invariant.near;
}

pub loop-step-preserved : goal.loop-step-preserved
loop-step-preserved c =
    let g = c.args.machine.now in
    let ds = c.args.delays.now in
    let mode = c.args.mode in
    let bound = c.args.bound in
    let steps = c.args.steps.now in
    let i = c.loop-step.step-index in
    let step = c.step-item.result in
    let old = c.loop-step.least in
    let mid = c.take_step.new.least in
    let next : drop i steps ≡ step ∷ drop (i + 1) steps = next_step steps i step c.step-item.is c.loop-step-test.true in
    let taken : IsBoundBy g ds mode bound step old mid = search rules in
    let fewer : count_by is_none mid + 1 ≡ count_by is_none old = search rules in
    let more : (i + 1) * 2 ^ 98 ≡ i * 2 ^ 98 + 2 ^ 98 = omega arith in
    record {
      steps = λ new.
          let before = subst (λ (left : List Step). AreBoundBy g ds mode bound steps c.args.least.now new
          ↔ AreBoundBy g ds mode bound left old new) next (c.loop-step.invariant.steps new) in
          let on = bounds_on g ds mode bound step (drop (i + 1) steps) old mid new taken in
          (λ all. on.0 (before.0 all), λ after. before.1 (on.1 after));
      near = subst (λ (far : ℕ). AreNear far mid) (sym more) (search rules);
      few = omega (arith, fewer, c.loop-step.invariant.few);
    }
