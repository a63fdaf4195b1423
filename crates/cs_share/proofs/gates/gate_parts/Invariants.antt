use Rattle.std.proofs.Common.{◌≡◌, take}
use Rattle.std.specs.Prelude.{filter_map}
use Rattle.std.specs.List.{enumerate_from}
use Rattle.cs_share.specs.Planned.{planned_gate}
use Rattle.cs_share.proofs.gates.gate_parts.Given as goal

abbrev pub invariant-loop-v : goal.invariant-loop-v
invariant-loop-v l =
    l.gates
    ≡ filter_map (planned_gate l.tables.origins.now l.tables.numbers.now l.tables.signals.now)
    (enumerate_from 0 (take l.v l.machine.vertices))
