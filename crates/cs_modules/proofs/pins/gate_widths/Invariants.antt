use Rattle.std.proofs.Common.{◌≡◌, ◌++◌, ◌-◌}
use Rattle.cs_modules.specs.PinBits.{widths_in}
use Rattle.cs_modules.proofs.WidthLemmas.{gate_pins}
use Rattle.cs_modules.proofs.pins.gate_widths.Given as goal

abbrev pub invariant-loop-i : goal.invariant-loop-i
invariant-loop-i l = widths_in l.widths.items ++ gate_pins l.kind l.i (l.i-end - l.i) ≡ gate_pins l.kind 0 l.i-end
