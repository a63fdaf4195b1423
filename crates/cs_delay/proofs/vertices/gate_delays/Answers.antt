-- The delays of the pins of a gate.
use Rattle.std.proofs.Common.{◌∷◌, ◌++◌, [], unwrap_or, sym, ap, ap₂, ◌∙◌}
use Rattle.cs_cells.specs.Gates.{row_of, pin_name}
use Rattle.cs_delay.specs.Assigned.{delay_of}
use Rattle.cs_delay.proofs.ListLemmas.{map_more}
use Rattle.cs_delay.proofs.vertices.gate_delays.Goals as goal

pub loop-pin-preserved : goal.loop-pin-preserved
loop-pin-preserved c =
    let given =
    c.unwrap_or.ensures
    ∙ ap (λ o. unwrap_or o 0) (c.delay_of-delay.ensures ∙ ap₂ (delay_of c.args.table.now) c.name.ensures c.pin_name.ensures) in
    c.in_ok-push.ensures.ok
    ∙ ap₂ (λ front delay. front ++ delay ∷ []) c.loop-pin.invariant given
    ∙ sym (map_more (λ pin. unwrap_or (delay_of c.args.table.now (row_of c.args.gate).name pin) 0) (pin_name c.args.gate) c.loop-pin.pin)
