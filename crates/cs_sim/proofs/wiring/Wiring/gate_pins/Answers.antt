use Rattle.std.proofs.Common.{rules}
use Rattle.cs_cells.specs.Gates.{pin_name}
use Rattle.cs_net.specs.Drivers.{signal_of}
use Rattle.cs_sim.specs.Slots.{slot_of}
use Rattle.cs_sim.proofs.Counted.{one_more_counted}
use Rattle.cs_sim.proofs.wiring.Wiring.gate_pins.Goals as goal

pub loop-i-preserved : goal.loop-i-preserved
loop-i-preserved c =
    one_more_counted (λ i. slot_of c.args.self.now.driven (signal_of c.args.cell.now (pin_name c.args.kind i))) c.loop-i.i
    _ c.loop-i.slots c.push.new.self (search rules) c.loop-i.invariant c.in_ok-push.ensures.ok
