-- Whether a pin of a gate lacks a delay.
use Rattle.std.proofs.Common.{◌≡◌, Option, Some, None, Bool, true, false, not, ◌||◌, ℕ, is_none, is_some, refl, sym, ap, ap₂, ◌∙◌}
use Rattle.cs_cells.specs.Gates.{row_of, pin_name}
use Rattle.cs_delay.specs.Assigned.{delay_of}
use Rattle.cs_delay.proofs.ListLemmas.{any_more}
use Rattle.cs_delay.proofs.missing.gate_lacks_delay.Goals as goal

none_of : (o : Option ℕ) (b : Bool) → is_some o ≡ not b → b ≡ is_none o
none_of None true h = refl
none_of None false h = absurd (cc)
none_of (Some n) true h = absurd (cc)
none_of (Some n) false h = refl

pub loop-pin-preserved : goal.loop-pin-preserved
loop-pin-preserved c =
    let kind = (row_of c.args.gate).name in
    let none =
    none_of c.delay_of.result c.is_none-lacks.result c.is_none-lacks.ensures
    ∙ ap is_none (c.delay_of.ensures ∙ ap₂ (delay_of c.args.table.now) c.name.ensures c.pin_name.ensures) in
    ap₂ (λ a b. a || b) c.loop-pin.invariant none
    ∙ sym (any_more (λ pin. is_none (delay_of c.args.table.now kind pin)) (pin_name c.args.gate) c.loop-pin.pin)
