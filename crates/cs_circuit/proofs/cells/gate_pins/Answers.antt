use Rattle.std.proofs.Common.{rules, [], ◌∷◌, get_or, false}
use Rattle.cs_base.specs.declared.signal.Signal.TheVariants.{Zero}
use Rattle.cs_cells.specs.Gates.{pin_name}
use Rattle.cs_circuit.specs.Cells.{pin}
use Rattle.cs_modules.proofs.Pushed.{one_more_counted}
use Rattle.cs_circuit.proofs.cells.gate_pins.Goals as goal

pub loop-i-preserved : goal.loop-i-preserved
loop-i-preserved c =
    let gate = c.args.gate.now in
    one_more_counted (λ i. pin (pin_name gate.kind i) (get_or gate.pins i Zero ∷ []) false) c.loop-i.i
    _ c.loop-i.pins c.add_bit.new.pins (search rules) c.loop-i.invariant c.in_ok-add_bit.ensures
