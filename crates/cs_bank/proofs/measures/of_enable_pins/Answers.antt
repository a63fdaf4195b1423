-- The guard's pins, or the enable bits.
use Rattle.std.proofs.Common.{◌+◌, ◌*◌, ◌∙◌, map, sym, ap, ap₂}
use Rattle.std.specs.Prelude.{min, if◌then◌else◌}
use Rattle.std.specs.List.{range_with_len}
use Rattle.cs_bank.specs.ContextBits.{wire}
use Rattle.cs_bank.specs.Guards.{memory_tests}
use Rattle.cs_bank.specs.Measures.{of_pins}
use Rattle.cs_bank.specs.Wired.{feed_source}
use Rattle.cs_bank.proofs.Counted.{most}
use Rattle.cs_bank.proofs.MeasureLemmas.{wires_count}
use Rattle.cs_bank.proofs.measures.of_enable_pins.Goals as goal

pub returns-then-is_guarded : goal.returns-then-is_guarded
returns-then-is_guarded c v =
    let m = c.args.memory.now in
    let enables = map (feed_source c.args.machine.now.edges) c.args.enables.now in
    c.saturating_mul.ensures
    ∙ ap₂ (λ a b. min (a * b) most) c.of_wire.ensures.is c.from.ensures
    ∙ ap (λ n. min n most) (sym (wires_count c.args.measure (v + memory_tests m) m.width))
    ∙ ap (λ b. min (of_pins c.args.measure (if b then map wire (range_with_len (v + memory_tests m) m.width)
    else enables)) most) c.if-is_guarded.ensures
