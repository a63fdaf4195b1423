-- The root is entered.
use Rattle.std.proofs.Common.{◌<◌, length, arith}
use Rattle.cs_order.specs.declared.state.State.TheVariants.{Unseen, Open}
use Rattle.cs_base.proofs.ListLemmas.{at_set_same}
use Rattle.cs_order.proofs.SearchLemmas.{entered, seen_stay, leads_nowhere}
use Rattle.cs_order.proofs.search.Search.visit.Goals as goal

pub loop-last-init : goal.loop-last-init
loop-last-init c =
    let s = c.args.self.now in
    let g = c.args.graph.now in
    let fresh = rw c.as_slice.ensures.value at c.if-not-is_unseen.ensures.yes in
    let now = c.in_ok-enter.ensures in
    let below : c.args.root < length s.states.items = omega
    (arith, c.requires.search.state_count, c.requires.within) in
    rw (now.states, now.path, c.enter.ensures.order, c.enter.ensures.cursors)
    (record {
      search = entered g s.states.items s.cursors.items s.path.items s.order.items c.args.root
          c.requires.search fresh (leads_nowhere g s.path.items c.args.root c.requires.rest);
      seen = seen_stay s.states.items c.args.root Unseen Open fresh (λ is. cc);
      root = (
        Open,
        at_set_same s.states.items c.args.root Open below,
        λ is. cc,
      );
    })
