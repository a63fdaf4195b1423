use Rattle.std.proofs.Common.{◌∙◌, ap}
use Rattle.cs_modules.specs.Digits.{is_nonzero}
use Rattle.cs_modules.specs.Pins.{parameter}
use Rattle.cs_conditions.proofs.MemoryRules.{positive}
use Rattle.cs_conditions.proofs.memories.is_positive.Goals as goal

pub returns : goal.returns
returns c =
    c.is_nonzero.ensures
    ∙ ap is_nonzero (c.as_slice.ensures.value ∙ c.in_ok-parameter.ensures)
    ∙ positive (parameter c.args.cell.now c.args.name.now)
