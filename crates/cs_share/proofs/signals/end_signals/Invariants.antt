use Rattle.std.proofs.Common.{◌≡◌, map, take}
use Rattle.std.specs.List.{zip}
use Rattle.cs_share.specs.Planned.{end_signal}
use Rattle.cs_share.proofs.signals.end_signals.Given as goal

abbrev pub invariant-loop-e : goal.invariant-loop-e
invariant-loop-e l =
    l.signals
    ≡ map (end_signal l.machine.vertices l.numbers.vertices l.numbers.first_register) (take l.e (zip l.ends l.machine.edges))
