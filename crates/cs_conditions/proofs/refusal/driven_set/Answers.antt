use Rattle.std.proofs.Common.{◌∙◌, ap}
use Rattle.std.specs.Prelude.{◌==◌}
use Rattle.std.specs.List.{list_any}
use Rattle.cs_modules.specs.Modules.{driven_signals}
use Rattle.cs_modules.proofs.Connections.{list_any-numbers}
use Rattle.cs_conditions.proofs.refusal.driven_set.Goals as goal

pub returns : goal.returns
returns c = λ b.
    c.in_ok-set.ensures b
    ∙ ap (list_any (λ a. a == b)) (c.as_slice.ensures.value ∙ c.in_ok-numbers.ensures)
    ∙ list_any-numbers b (driven_signals c.args.top.now)
