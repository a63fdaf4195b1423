use Rattle.std.proofs.Common.{◌≡◌, ℕ, ◌↔◌, IfNone, IfSome, List, subst, sym}
use Rattle.cs_cert.specs.declared.step.Step.{Step}
use Rattle.cs_cert.specs.declared.step.Step.TheVariants.{PathStep}
use Rattle.cs_cert.specs.declared.reach.Reach.{Reach}
use Rattle.cs_cert.specs.Steps.{Goes, IsValid}
use Rattle.cs_cert.proofs.reach.reach_of.Goals as goal

pub returns-in-EdgeStep-clause-goes : goal.returns-in-EdgeStep-clause-goes
returns-in-EdgeStep-clause-goes c =
    subst (λ (s : Step). IfSome c.along_edge.result (λ (r : Reach). (u v : ℕ) → Goes c.args.machine.now s u v ↔ ((r.from ≡ u) × (r.to ≡ v))))
    (sym c.in-EdgeStep.is) c.along_edge.ensures.goes

pub returns-in-EdgeStep-clause-none : goal.returns-in-EdgeStep-clause-none
returns-in-EdgeStep-clause-none c =
    subst (λ (s : Step). IfNone c.along_edge.result ((u v : ℕ) → Goes c.args.machine.now s u v
    → IsValid c.args.machine.now c.args.delays.now c.args.mode c.args.bound s → ⊥)) (sym c.in-EdgeStep.is) c.along_edge.ensures.none

pub returns-in-PathStep-clause-goes : goal.returns-in-PathStep-clause-goes
returns-in-PathStep-clause-goes c =
    let goes = λ (s : Step). IfSome c.along_path.result (λ (r : Reach). (u v : ℕ) → Goes c.args.machine.now s u v ↔ ((r.from ≡ u) × (r.to ≡ v))) in
    subst goes (sym c.in-PathStep.is)
    (subst (λ (edges : List ℕ). goes (PathStep c.in-PathStep.from edges)) c.as_slice.ensures c.along_path.ensures.goes)
