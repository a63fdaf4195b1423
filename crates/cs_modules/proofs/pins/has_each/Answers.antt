use Rattle.std.proofs.Common.{◌∙◌}
use Rattle.cs_modules.proofs.WidthLemmas.{each_in}
use Rattle.cs_modules.proofs.pins.has_each.Goals as goal

pub returns : goal.returns
returns c = c.has_each_named.ensures ∙ each_in c.args.pins.now c.args.widths.now
