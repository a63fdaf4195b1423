use Rattle.std.proofs.Common.{ap, codes, rules, ◌∙◌}
use Rattle.cs_cells.specs.Gates.{pin_name}
use Rattle.cs_modules.proofs.Pushed.{one_more_counted}
use Rattle.cs_net.specs.Drivers.{signal_of}
use Rattle.cs_lower.specs.declared.taps.Tap.TheVariants.{Signal as of_signal}
use Rattle.cs_lower.proofs.PinOrder.{first_in_order, in_order_next}
use Rattle.cs_lower.proofs.cells.gate_pins.Goals as goal

pub signal_near-requires : goal.signal_near-requires
signal_near-requires c =
    first_in_order c.args.cell.now.pins c.args.kind c.loop-i.i c.loop-i.in_order c.in_order_to-in_order.result
    c.pin_name-name.result.now c.pin_name-name.ensures c.in_order_to-in_order.ensures c.loop-i.invariant.1

pub loop-i-preserved : goal.loop-i-preserved
loop-i-preserved c = (
  one_more_counted (λ i. of_signal (signal_of c.args.cell.now (pin_name c.args.kind i))) c.loop-i.i
      _ c.loop-i.pins c.push.new.self
      (ap of_signal (c.signal_near.ensures ∙ ap (signal_of c.args.cell.now) c.pin_name-name.ensures))
      c.loop-i.invariant.0 c.in_ok-push.ensures.ok,
  in_order_next c.args.cell.now.pins c.args.kind c.loop-i.i c.loop-i.in_order c.in_order_to-in_order.result
      c.pin_name-name.result.now c.pin_name-name.ensures c.in_order_to-in_order.ensures c.loop-i.invariant.1,
)
