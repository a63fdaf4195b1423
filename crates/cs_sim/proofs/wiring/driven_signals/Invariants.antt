use Rattle.std.proofs.Common.{◌≡◌, ◌++◌, drop, flat_map}
use Rattle.std.specs.List.{zip}
use Rattle.cs_sim.specs.Layout.{cell_outputs, driven_signals}
use Rattle.cs_sim.proofs.wiring.driven_signals.Given as goal

-- what the cells that are left drive comes after what is pushed
abbrev pub invariant-loop-place : goal.invariant-loop-place
invariant-loop-place l = l.signals.items ++ flat_map cell_outputs (drop l.place (zip l.net.cells l.net.shapes)) ≡ driven_signals l.net
