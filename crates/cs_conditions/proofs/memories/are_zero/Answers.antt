use Rattle.std.proofs.Common.{◌∙◌, ap, not}
use Rattle.cs_modules.specs.Digits.{is_nonzero}
use Rattle.cs_conditions.proofs.MemoryRules.{zeros}
use Rattle.cs_conditions.proofs.memories.are_zero.Goals as goal

pub returns : goal.returns
returns c =
    ap not (c.is_nonzero.ensures ∙ ap is_nonzero c.first_digits.ensures) ∙ zeros c.args.digits.now c.args.count
