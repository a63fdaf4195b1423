use Rattle.std.proofs.Common.{◌&&◌, sym, ap, ap₂, ◌∙◌}
use Rattle.cs_cells.specs.declared.class.Class.TheVariants.{Memory}
use Rattle.cs_modules.specs.Pins.{has_pins, widths_of}
use Rattle.cs_modules.specs.PinBits.{widths_in}
use Rattle.cs_modules.proofs.WidthLemmas.{sizes_are}
use Rattle.cs_modules.proofs.pins.has_memory_pins.Goals as goal

pub returns : goal.returns
returns c =
    let known = sizes_are c.args.cell.now c.sizes_of.result c.in_ok-sizes.field-0 c.in-Some.sizes c.sizes_of.ensures c.in_ok-sizes.was c.in-Some.is in
    c.has_pins.ensures
    ∙ ap₂ has_pins (ap widths_in c.as_slice.ensures.value ∙ c.in_ok-widths.ensures ∙ sym known.1) c.as_slice-2.ensures
    ∙ ap (λ t. t && has_pins (widths_of Memory c.args.cell.now) c.args.cell.now.pins) (sym known.0)
