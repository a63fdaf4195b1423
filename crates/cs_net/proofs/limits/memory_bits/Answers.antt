use Rattle.std.proofs.Common.{◌∙◌, ◌*◌, ap₂, min}
use Rattle.cs_net.proofs.LimitLemmas.{shifted_one}
use Rattle.cs_net.proofs.limits.memory_bits.Goals as goal

pub returns : goal.returns
returns c =
    c.saturating_mul.ensures
    ∙ ap₂ (λ a b. min (a * b) 18446744073709551615) (shifted_one c.args.shape.now.abits c.requires) c.from.ensures
