use Rattle.std.proofs.Common.{◌≡◌, ◌↔◌, ◌^◌, drop}
use Rattle.std.specs.Prelude.{pos, ◌+ℤ◌, ◌≤ℤ◌}
use Rattle.cs_cert.specs.Steps.{Lead, total_cost}
use Rattle.cs_cert.proofs.cycle.leads_below.Given as goal

abbrev pub invariant-loop-step : goal.invariant-loop-step
invariant-loop-step l = record {
  leads : Lead l.machine l.delays l.mode l.bound l.vertex l.steps l.vertex
      ↔ Lead l.machine l.delays l.mode l.bound l.at (drop l.step-index l.steps) l.vertex;
  costs : total_cost l.machine l.steps ≡ l.costs +ℤ total_cost l.machine (drop l.step-index l.steps);
  low : pos 0 ≤ℤ (l.costs +ℤ pos l.step-index);
  high : l.costs ≤ℤ pos (2 ^ 99);
}
