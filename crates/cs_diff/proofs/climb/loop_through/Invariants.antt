-- The places lead up to `at`, and no way so far came back.
use Rattle.std.proofs.Common.{◌≡◌, Some}
use Rattle.cs_diff.specs.Labels.{ancestor, ClimbsBy}
use Rattle.cs_diff.proofs.ClimbLemmas.{NoneBack}
use Rattle.cs_diff.proofs.climb.loop_through.Given as goal

abbrev pub invariant-loop-step : goal.invariant-loop-step
invariant-loop-step l = record {
  climbs : ClimbsBy l.reading l.sys.constraints l.parents l.start l.places l.at;
  reached : ancestor l.reading l.sys.constraints l.parents l._step l.start ≡ Some l.at;
  back : NoneBack l.reading l.sys.constraints l.parents l.start l._step;
}
