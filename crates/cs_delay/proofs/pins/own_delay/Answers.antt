-- The delay of a pin that is named.
use Rattle.std.proofs.Common.{sym, ap, ◌∙◌}
use Rattle.cs_delay.specs.declared.entry.PinDelays.TheVariants.{Pins}
use Rattle.cs_delay.specs.Assigned.{own_delay}
use Rattle.cs_delay.proofs.pins.own_delay.Goals as goal

pub returns-in-Pins : goal.returns-in-Pins
returns-in-Pins c =
    c.pin_delay.ensures
    ∙ ap (λ pins. own_delay c.args.pin.now (Pins pins)) c.as_slice.ensures
    ∙ ap (own_delay c.args.pin.now) (sym c.in-Pins.is)
