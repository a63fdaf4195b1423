use Rattle.std.proofs.Common.{ap, ap₂, ◌∙◌}
use Rattle.cs_modules.specs.Pins.{has_pins}
use Rattle.cs_modules.specs.PinBits.{widths_in}
use Rattle.cs_modules.proofs.pins.has_register_pins.Goals as goal

pub returns : goal.returns
returns c =
    c.has_pins.ensures
    ∙ ap₂ has_pins (ap widths_in c.as_slice.ensures.value ∙ c.in_ok-widths.ensures) c.as_slice-2.ensures
