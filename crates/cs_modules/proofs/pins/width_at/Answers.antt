use Rattle.std.proofs.Common.{◌∙◌}
use Rattle.cs_modules.proofs.WidthLemmas.{width_in}
use Rattle.cs_modules.proofs.pins.width_at.Goals as goal

pub returns : goal.returns
returns c = c.width_named.ensures ∙ width_in c.args.name.now c.args.widths.now
