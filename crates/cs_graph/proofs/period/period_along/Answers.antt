-- Vertex by vertex along the order.
use Rattle.std.proofs.Common.{◌≡◌, ℕ, ◌+◌, ◌*◌, length, set, max, refl, sym, ◌∙◌, subst, arith}
use Rattle.std.specs.Ordering.{ord_max}
use Rattle.std.proofs.Common.{nat_cmp}
use Rattle.std.proofs.lemmas.Option.{slice_get_read}
use Rattle.cs_graph.specs.Arrivals.{AreAtMost, IsLatest}
use Rattle.cs_graph.proofs.PathLemmas.{IsSweep, sweep_knows, sweep_goes_on, sweep_ends, latest_arrives}
use Rattle.cs_graph.proofs.period.period_along.Goals as goal

ord_is_max : (a b : ℕ) → ord_max nat_cmp a b ≡ max a b
ord_is_max a b = grind arith

pub arrival_at-arrival-requires-clause-vertex : goal.arrival_at-arrival-requires-clause-vertex
arrival_at-arrival-requires-clause-vertex c =
    let at = slice_get_read c.args.order.now (length c.args.order.now) c.loop-turn.turn
    c.index-order-turn.result refl
    c.loop-turn-test.true c.index-order-turn.is in
    (c.requires.order.once c.loop-turn.turn c.index-order-turn.result at).0

pub index_mut-requires : goal.index_mut-requires
index_mut-requires c =
    let at = slice_get_read c.args.order.now (length c.args.order.now) c.loop-turn.turn
    c.index-order-turn.result refl
    c.loop-turn-test.true c.index-order-turn.is in
    let once = c.requires.order.once c.loop-turn.turn c.index-order-turn.result at in
    omega (arith, once.0, c.get.ensures, c.loop-turn.invariant.count, c.loop-turn.arrivals.ok.0)

pub loop-turn-preserved : goal.loop-turn-preserved
loop-turn-preserved c =
    let g = c.args.graph.now in
    let lags = c.args.lags.now in
    let delays = c.args.delays.now in
    let order = c.args.order.now in
    let k = c.loop-turn.turn in
    let v = c.index-order-turn.result in
    let arrivals = c.loop-turn.arrivals.items in
    let latest = c.arrival_at-arrival.result in
    let at = slice_get_read order (length order) k v refl c.loop-turn-test.true c.index-order-turn.is in
    let sweep = c.loop-turn.invariant in
    let is = subst (λ xs. IsLatest g lags delays xs v latest) c.as_slice.ensures.value
    c.arrival_at-arrival.ensures.latest in
    let arrives = latest_arrives g lags delays c.requires.wired arrivals v latest is
    (λ i u drives. sweep_knows g lags delays order k arrivals c.loop-turn.period v c.requires.wired
    c.requires.order sweep at i u drives) in
    let few = c.arrival_at-arrival.ensures.few (k * 1000000)
    (subst (λ xs. AreAtMost xs (k * 1000000)) (sym c.as_slice.ensures.value) sweep.few) in
    let next = sweep_goes_on g lags delays order k arrivals c.loop-turn.period v latest c.requires.wired
    c.requires.order sweep at arrives few in
    let greatest : c.max-period.result ≡ max c.loop-turn.period latest = c.max-period.ensures ∙ ord_is_max
    c.loop-turn.period latest in
    subst (λ n. IsSweep g lags delays order (k + 1) (set arrivals n latest) c.max-period.result) (sym
    c.get.ensures)
    (subst (IsSweep g lags delays order (k + 1) (set arrivals v latest)) (sym greatest) next)

pub returns : goal.returns
returns c =
    sweep_ends c.args.graph.now c.args.lags.now c.args.delays.now c.args.order.now c.loop-turn.turn
    c.loop-turn.arrivals.items
    c.loop-turn.period c.requires.wired c.requires.order c.loop-turn.invariant c.loop-turn-test.false
