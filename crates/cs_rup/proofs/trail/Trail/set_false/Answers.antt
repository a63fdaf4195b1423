-- The negation of the literal is given.
use Rattle.std.proofs.Common.{sym, subst, ◌∙◌}
use Rattle.cs_base.specs.Derivations.{negated}
use Rattle.cs_rup.specs.Settings.{IsSetIn}
use Rattle.cs_rup.specs.Trails.{set_by}
use Rattle.cs_rup.proofs.Trails.{given_sound, both_ways}
use Rattle.cs_rup.proofs.trail.Trail.set_false.Goals as goal

pub returns-then-is_true-clause-err : goal.returns-then-is_true-clause-err
returns-then-is_true-clause-err c clauses given among sound =
    both_ways clauses given c.args.lit (set_by c.args.self.now) (sym c.is_true.ensures ∙ c.if-is_true.true) among sound

pub returns-clause-sound : goal.returns-clause-sound
returns-clause-sound c clauses given among sound =
    given_sound clauses given (negated c.args.lit) (set_by c.args.self.now) (set_by c.set.new.self)
    (subst (λ lit. IsSetIn (set_by c.args.self.now) (set_by c.set.new.self) lit) c.negated.ensures c.in_ok-set.ensures.set)
    among sound
