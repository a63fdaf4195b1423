use Rattle.std.proofs.Common.{◌≡◌, ◌++◌}
use Rattle.std.specs.List.{zip}
use Rattle.cs_net.specs.Drivers.{data_inputs}
use Rattle.cs_lower.proofs.DrivenLemmas.{outputs_but}
use Rattle.cs_lower.proofs.driven.driven_signals.Given as goal

-- the signals of the cells that are left come after those that are pushed
abbrev pub invariant-loop-cell : goal.invariant-loop-cell
invariant-loop-cell l =
    l.signals.items ++ outputs_but (zip l.cell-iterator.a.rest.now l.cell-iterator.b.rest.now)
    ≡ data_inputs l.net ++ outputs_but (zip l.net.cells l.net.shapes)
