use Rattle.std.proofs.Common.{sym, subst}
use Rattle.std.proofs.lemmas.Bool.{OnTrue_at, OnTrue_from}
use Rattle.cs_cert.specs.Floors.{AreBoundBy, AreNear, LowerBounds}
use Rattle.cs_cert.proofs.FloorLemmas.{pinned_near}
use Rattle.cs_cert.proofs.BoundLemmas.{bounds_hold}
use Rattle.cs_cert.proofs.floors.check_floors.Goals as goal

pub take_steps-requires-clause-near : goal.take_steps-requires-clause-near
take_steps-requires-clause-near c = subst (AreNear 0) (sym c.write_pinned.ensures) (pinned_near c.args.machine.now)

pub returns-clause-sound : goal.returns-clause-sound
returns-clause-sound c =
    OnTrue_from c.take_steps.result _ (λ all lags legal within.
    bounds_hold c.args.machine.now c.args.delays.now c.args.mode c.args.bound lags legal within c.args.steps.now
    c.take_steps.new.least
    (subst (λ (old : LowerBounds). AreBoundBy c.args.machine.now c.args.delays.now c.args.mode c.args.bound c.args.steps.now
    old c.take_steps.new.least) c.write_pinned.ensures (OnTrue_at all c.take_steps.ensures.taken)))
