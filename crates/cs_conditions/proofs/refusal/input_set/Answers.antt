use Rattle.std.proofs.Common.{◌∙◌, ap}
use Rattle.std.specs.Prelude.{◌==◌}
use Rattle.std.specs.List.{list_any}
use Rattle.cs_modules.specs.Modules.{input_bits}
use Rattle.cs_modules.specs.PinBits.{input_numbers_of}
use Rattle.cs_modules.proofs.Connections.{list_any-numbers, input_numbers_are}
use Rattle.cs_conditions.proofs.refusal.input_set.Goals as goal

pub returns : goal.returns
returns c = λ b.
    c.in_ok-set.ensures b
    ∙ ap (list_any (λ a. a == b)) (c.as_slice-2.ensures.value ∙ c.in_ok-numbers.ensures ∙ ap input_numbers_of c.as_slice.ensures ∙ input_numbers_are c.args.top.now.ports)
    ∙ list_any-numbers b (input_bits c.args.top.now)
