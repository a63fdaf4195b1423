use Rattle.std.proofs.Common.{◌≡◌, map, true}
use Rattle.cs_cells.specs.Gates.{pin_name}
use Rattle.cs_modules.specs.Pins.{count_from}
use Rattle.cs_net.specs.Drivers.{signal_of}
use Rattle.cs_lower.specs.declared.taps.Tap.TheVariants.{Signal as of_signal}
use Rattle.cs_lower.proofs.PinOrder.{AreNamed}
use Rattle.cs_lower.proofs.cells.gate_pins.Given as goal

-- the pins so far; where they are in order, the cell's first have their names
abbrev pub invariant-loop-i : goal.invariant-loop-i
invariant-loop-i l =
    (l.pins ≡ map (λ i. of_signal (signal_of l.cell (pin_name l.kind i))) (count_from 0 l.i))
    × (l.in_order ≡ true → AreNamed l.cell.pins (pin_name l.kind) l.i)
