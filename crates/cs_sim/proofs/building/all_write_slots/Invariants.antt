use Rattle.std.proofs.Common.{◌≡◌, map}
use Rattle.cs_modules.specs.Pins.{count_from}
use Rattle.cs_sim.specs.Layout.{write_slots}
use Rattle.cs_sim.proofs.building.all_write_slots.Given as goal

abbrev pub invariant-loop-port : goal.invariant-loop-port
invariant-loop-port l = l.made ≡ map (write_slots l.wiring.driven l.cell l.shape) (count_from 0 l.port)
