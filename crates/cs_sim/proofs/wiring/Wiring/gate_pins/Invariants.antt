use Rattle.std.proofs.Common.{◌≡◌, map}
use Rattle.cs_cells.specs.Gates.{pin_name}
use Rattle.cs_net.specs.Drivers.{signal_of}
use Rattle.cs_modules.specs.Pins.{count_from}
use Rattle.cs_sim.specs.Slots.{slot_of}
use Rattle.cs_sim.proofs.wiring.Wiring.gate_pins.Given as goal

abbrev pub invariant-loop-i : goal.invariant-loop-i
invariant-loop-i l = l.slots ≡ map (λ i. slot_of l.self.driven (signal_of l.cell (pin_name l.kind i))) (count_from 0 l.i)
