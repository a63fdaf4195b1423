-- One literal more is taken back.
use Rattle.std.proofs.Common.{◌≡◌, [], ◌∷◌, ◌++◌, subst}
use Rattle.cs_rup.proofs.Trails.{undone_more}
use Rattle.std.specs.Option.{option_to_list}
use Rattle.cs_rup.proofs.trail.Trail.undo.Goals as goal

pub loop-lit-preserved : goal.loop-lit-preserved
loop-lit-preserved c =
    let popped : c.loop-lit.self.lits.items ≡ c.pop.new.self.items ++ c.in-Some.lit ∷ [] =
    subst (λ last. c.loop-lit.self.lits.items ≡ c.pop.new.self.items ++ option_to_list last) c.in-Some.is c.pop.ensures.items in
    undone_more c.args.self.now c.loop-lit.self (record { values = c.unset.new.self; lits = c.pop.new.self }) c.in-Some.lit
    c.loop-lit.invariant popped c.unset.ensures
