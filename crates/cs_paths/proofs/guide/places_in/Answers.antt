-- One vertex of the order more.
use Rattle.std.proofs.Common.{◌+◌, length, set, refl, sym, subst, arith}
use Rattle.std.proofs.lemmas.Option.{slice_get_read}
use Rattle.cs_paths.specs.Guides.{ArePlaces}
use Rattle.cs_paths.proofs.GuideLemmas.{ArePlacesSoFar, order_low, places_go_on, places_end}
use Rattle.cs_paths.proofs.guide.places_in.Goals as goal

pub index_mut-requires : goal.index_mut-requires
index_mut-requires c =
    let order = c.args.order.now in
    let at = slice_get_read order (length order) c.loop-place.place c.index-order-place.result refl
    c.loop-place-test.true c.index-order-place.is in
    let low = order_low c.args.machine.now order c.requires c.loop-place.place c.index-order-place.result at in
    omega (arith, low, c.get.ensures, c.loop-place.invariant.count, c.loop-place.places.ok.0)

pub loop-place-preserved : goal.loop-place-preserved
loop-place-preserved c =
    let order = c.args.order.now in
    let at = slice_get_read order (length order) c.loop-place.place c.index-order-place.result refl
    c.loop-place-test.true c.index-order-place.is in
    subst (λ n. ArePlacesSoFar order (c.loop-place.place + 1) (set c.loop-place.places.items n c.loop-place.place))
    (sym c.get.ensures)
    (places_go_on c.args.machine.now order c.requires c.loop-place.place c.index-order-place.result
    c.loop-place.places.items c.loop-place.invariant at)

pub returns : goal.returns
returns c =
    subst (ArePlaces c.args.order.now) (sym c.from_vec.ensures)
    (places_end c.args.machine.now c.args.order.now c.requires c.loop-place.place c.loop-place.places.items
    c.loop-place.invariant c.loop-place-test.false)
