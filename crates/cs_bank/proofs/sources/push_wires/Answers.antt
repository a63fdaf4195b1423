-- A pin more.
use Rattle.std.proofs.Common.{[], ◌∷◌, ◌++◌, ◌∙◌, ap, sym}
use Rattle.cs_bank.specs.ContextBits.{wire}
use Rattle.cs_bank.proofs.Pushed.{push_range}
use Rattle.cs_bank.proofs.sources.push_wires.Goals as goal

pub loop-place-preserved : goal.loop-place-preserved
loop-place-preserved c =
    push_range wire c.args.first c.loop-place.place c.new.result c.args.pins.now.items c.loop-place.pins.items
    c.push.new.self.items (sym c.new.ensures) c.loop-place.invariant
    (c.in_ok-push.ensures.items ∙ ap (λ s. c.loop-place.pins.items ++ s ∷ []) c.wire.ensures)
