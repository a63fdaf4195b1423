use Rattle.std.proofs.Common.{◌∙◌, sym, ap}
use Rattle.cs_modules.specs.PinBits.{first_clock_of}
use Rattle.cs_modules.proofs.Connections.{first_clock-cells}
use Rattle.cs_modules.proofs.clocks.clock_by_pins.Goals as goal

pub returns : goal.returns
returns c = c.first_clock.ensures ∙ ap first_clock_of c.requires ∙ sym (first_clock-cells c.args.top.now.cells)
