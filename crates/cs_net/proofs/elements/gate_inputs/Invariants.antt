use Rattle.std.proofs.Common.{◌≡◌, map}
use Rattle.cs_cells.specs.Gates.{pin_name}
use Rattle.cs_net.specs.Drivers.{signal_of}
use Rattle.cs_modules.specs.Pins.{count_from}
use Rattle.cs_net.proofs.elements.gate_inputs.Given as goal

abbrev pub invariant-loop-p : goal.invariant-loop-p
invariant-loop-p l = l.inputs ≡ map (λ p. signal_of l.cell (pin_name l.kind p)) (count_from 0 l.p)
