-- What one vertex more shows.
use Rattle.std.proofs.Common.{◌≡◌, ◌∙◌, ◌++◌, List, Some, sym, ap, subst}
use Rattle.std.specs.Prelude.{slice_get}
use Rattle.cs_base.specs.declared.signal.Signal.{Signal}
use Rattle.cs_share.specs.Planned.{feeds_shown}
use Rattle.cs_share.proofs.Numbered.{chained_more}
use Rattle.cs_share.proofs.signals.shown_signals.Goals as goal

pub loop-v-preserved : goal.loop-v-preserved
loop-v-preserved c =
    let g = c.args.machine.now in
    let x = c.vertex.result.now in
    let signals = c.args.signals.now in
    let found = subst (λ u. slice_get g.vertices u ≡ Some x) c.new.ensures c.vertex.ensures in
    c.in_ok-push_shown.ensures
    ∙ ap (λ (shown : List Signal). shown ++ feeds_shown signals x) c.loop-v.invariant
    ∙ sym (chained_more (feeds_shown signals) g.vertices c.loop-v.v x found)
