-- One line is accepted.
use Rattle.std.proofs.Common.{◌≡◌, true, [], ◌∷◌, ◌++◌, if◌then◌else◌, ap, ◌∙◌}
use Rattle.cs_base.specs.Derivations.{AreRup}
use Rattle.cs_rup.proofs.Derivations.{accepted}
use Rattle.cs_rup.proofs.derivation.are_rup.Goals as goal

pub loop-line-preserved : goal.loop-line-preserved
loop-line-preserved c =
    let line = c.line-item.result in
    let is : c.in_ok-add.field-0 ≡ true = c.if-not-branch.false in
    accepted (AreRup c.args.f.now.clauses c.args.lines.now) c.loop-line.checker c.add.new.self c.args.lines.now
    c.loop-line.line-index line c.line-item.is c.loop-line-test.true c.loop-line.invariant
    (c.in_ok-add.ensures.accepts.0 is)
    (c.in_ok-add.ensures.keeps ∙ ap (λ b. if b then c.loop-line.checker ++ line ∷ [] else c.loop-line.checker) is)
