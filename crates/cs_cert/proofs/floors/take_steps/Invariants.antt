use Rattle.std.proofs.Common.{◌+◌, ◌*◌, ◌≤◌, ◌^◌, ◌↔◌, drop}
use Rattle.std.specs.List.{count_by}
use Rattle.std.specs.Prelude.{is_none}
use Rattle.cs_cert.specs.Floors.{AreBoundBy, AreNear, LowerBounds}
use Rattle.cs_cert.proofs.floors.take_steps.Given as goal

abbrev pub invariant-loop-step : goal.invariant-loop-step
invariant-loop-step l = record {
  steps : (new : LowerBounds) → AreBoundBy l.machine l.delays l.mode l.bound l.steps l.initial.least new
      ↔ AreBoundBy l.machine l.delays l.mode l.bound (drop l.step-index l.steps) l.least new;
  near : AreNear (l.step-index * 2 ^ 98) l.least;
  few : l.step-index + count_by is_none l.least ≤ 4096;
}
