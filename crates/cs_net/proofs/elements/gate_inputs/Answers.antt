use Rattle.std.proofs.Common.{rules}
use Rattle.cs_cells.specs.Gates.{pin_name}
use Rattle.cs_net.specs.Drivers.{signal_of}
use Rattle.cs_modules.proofs.Pushed.{one_more_counted}
use Rattle.cs_net.proofs.elements.gate_inputs.Goals as goal

pub loop-p-preserved : goal.loop-p-preserved
loop-p-preserved c =
    one_more_counted (λ p. signal_of c.args.cell.now (pin_name c.args.kind p)) c.loop-p.p
    _ c.loop-p.inputs c.push.new.self (search rules) c.loop-p.invariant c.in_ok-push.ensures.ok
