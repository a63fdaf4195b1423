use Rattle.std.proofs.Common.{◌≡◌, [], ◌∷◌, false, get_or, map}
use Rattle.cs_base.specs.declared.signal.Signal.TheVariants.{Zero}
use Rattle.cs_cells.specs.Gates.{pin_name}
use Rattle.cs_modules.specs.Pins.{count_from}
use Rattle.cs_circuit.specs.Cells.{pin}
use Rattle.cs_circuit.proofs.cells.gate_pins.Given as goal

abbrev pub invariant-loop-i : goal.invariant-loop-i
invariant-loop-i l =
    l.pins ≡ map (λ i. pin (pin_name l.gate.kind i) (get_or l.gate.pins i Zero ∷ []) false) (count_from 0 l.i)
