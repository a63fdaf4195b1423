use Rattle.cs_net.proofs.PinWidths.{pin_is_wide}
use Rattle.cs_net.proofs.laws.pins_are_wide.Goals as goal

pub returns : goal.returns
returns c = pin_is_wide c.args.net.now c.keeps.ensures
