use Rattle.std.proofs.Common.{rules}
use Rattle.cs_sim.specs.Layout.{write_slots}
use Rattle.cs_sim.proofs.Counted.{one_more_counted}
use Rattle.cs_sim.proofs.building.all_write_slots.Goals as goal

pub loop-port-preserved : goal.loop-port-preserved
loop-port-preserved c =
    one_more_counted (write_slots c.args.wiring.now.driven c.args.cell.now c.args.shape.now) c.loop-port.port
    _ c.loop-port.made c.push.new.self (search rules) c.loop-port.invariant c.in_ok-push.ensures.ok
