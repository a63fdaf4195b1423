use Rattle.std.proofs.Common.{◌++◌, ◌∙◌, ap, ap₂}
use Rattle.cs_modules.specs.PinBits.{input_numbers_of}
use Rattle.cs_modules.proofs.Connections.{driven-cells, input_numbers_are}
use Rattle.cs_modules.proofs.drivers.driven_numbers.Goals as goal

pub returns : goal.returns
returns c =
    c.in_ok-extend_from_slice.ensures.items
    ∙ ap₂ (λ inputs outputs. inputs ++ outputs)
    (c.in_ok-numbers.ensures ∙ ap input_numbers_of c.as_slice.ensures ∙ input_numbers_are c.args.top.now.ports)
    (c.as_slice-2.ensures.value ∙ c.in_ok-output_numbers.ensures)
    ∙ driven-cells c.args.top.now c.args.bits.now c.requires
