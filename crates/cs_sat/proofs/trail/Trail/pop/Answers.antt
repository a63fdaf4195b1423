-- The last step's variable has no value any more.
use Rattle.std.proofs.Common.{◌≡◌, [], ◌∷◌, ◌++◌, refl, subst, arith}
use Rattle.std.specs.Option.{option_to_list}
use Rattle.cs_sat.proofs.Trails.{trail_popped, popped_within}
use Rattle.cs_sat.proofs.trail.Trail.pop.Goals as goal

pub index_mut-requires : goal.index_mut-requires
index_mut-requires c =
    let popped : c.args.self.now.steps.items ≡ c.pop.new.self.items ++ c.in-Some.step ∷ [] =
    subst (λ last. c.args.self.now.steps.items ≡ c.pop.new.self.items ++ option_to_list last) c.in-Some.is c.pop.ensures.items in
    let within = popped_within c.args.self.now c.pop.new.self.items c.in-Some.step c.requires.trail popped in
    omega arith

pub returns-in-Some-clause-trail : goal.returns-in-Some-clause-trail
returns-in-Some-clause-trail c =
    let popped : c.args.self.now.steps.items ≡ c.pop.new.self.items ++ c.in-Some.step ∷ [] =
    subst (λ last. c.args.self.now.steps.items ≡ c.pop.new.self.items ++ option_to_list last) c.in-Some.is c.pop.ensures.items in
    trail_popped c.args.self.now _ c.in-Some.step c.requires.trail popped refl
