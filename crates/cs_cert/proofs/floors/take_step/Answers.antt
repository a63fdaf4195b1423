use Rattle.std.proofs.Common.{◌≡◌, Some, None, ap₂, ◌∙◌, arith, rules, to_z, of_z}
use Rattle.std.specs.Int.{w128}
use Rattle.std.specs.Prelude.{ℤ, ◌-ℤ◌, slice_get}
use Rattle.std.proofs.lemmas.Int.{to_z-of_z}
use Rattle.std.proofs.lemmas.Option.{slice_get_within}
use Rattle.cs_cert.proofs.FloorLemmas.{fewer_open, near_after}
use Rattle.cs_cert.proofs.floors.take_step.Goals as goal

unknown : (c : goal.After-get) → slice_get c.args.least.now c.in-Some.reach.to ≡ Some None
unknown c = search rules

-- the bound that is written
written : (c : goal.After-get)
    → to_z w128 (of_z w128 c.lowered.result) ≡ c.in-Some-bound_at.known -ℤ c.in-Some.reach.cost
written c =
    let known : to_z w128 (of_z w128 c.in-Some-bound_at.known) ≡ c.in-Some-bound_at.known =
    to_z-of_z w128 c.in-Some-bound_at.known (search rules) in
    let cost : to_z w128 (of_z w128 c.in-Some.reach.cost) ≡ c.in-Some.reach.cost =
    to_z-of_z w128 c.in-Some.reach.cost (search rules) in
    to_z-of_z w128 c.lowered.result (search rules) ∙ c.lowered.ensures
    ∙ ap₂ (λ (x y : ℤ). x -ℤ y) known cost

pub bounds-least-get : goal.bounds-least-get
bounds-least-get c =
    omega (arith, slice_get_within c.args.least.now c.in-Some.reach.to None (unknown c), c.get.ensures)

pub returns-clause-near : goal.returns-clause-near
returns-clause-near c far near =
    rw (c.get.ensures, written c)
    (near_after c.args.least.now c.in-Some.reach.from c.in-Some.reach.to c.in-Some-bound_at.known c.in-Some.reach.cost far
    near c.in-Some-bound_at.ensures.known c.in-Some.ensures.range.0 c.in-Some.ensures.range.1)

pub returns-clause-fewer : goal.returns-clause-fewer
returns-clause-fewer c =
    rw (c.get.ensures)
    (fewer_open c.args.least.now c.in-Some.reach.to (to_z w128 (of_z w128 c.lowered.result)) (unknown c))
