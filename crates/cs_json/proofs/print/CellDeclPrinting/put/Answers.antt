-- The value has no float.
use Rattle.std.proofs.Common.{ap, ◌∙◌}
use Rattle.serde_json.specs.Written.{has_float}
use Rattle.cs_json.proofs.NoFloats.{cell_none}
use Rattle.cs_json.proofs.print.CellDeclPrinting.put.Goals as goal

pub put_value-requires : goal.put_value-requires
put_value-requires c = ap has_float c.in_ok-value.ensures ∙ cell_none c.args.self.now
