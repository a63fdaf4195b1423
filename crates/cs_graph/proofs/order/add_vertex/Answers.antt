-- Pin by pin.
use Rattle.std.proofs.Common.{◌++◌, [], ◌∷◌, ◌<◌, length, refl, sym, ap, ap₂, ◌∙◌, arith}
use Rattle.std.specs.Prelude.{slice_get}
use Rattle.std.proofs.lemmas.Option.{slice_get_read}
use Rattle.cs_order.specs.Graphs.{push_source}
use Rattle.cs_order.proofs.CallerLemmas.{push_source_last}
use Rattle.cs_graph.proofs.OrderLemmas.{drivers_pass, drivers_go_on, drivers_end}
use Rattle.cs_graph.proofs.order.add_vertex.Goals as goal
use Rattle.cs_graph.proofs.order.add_vertex.Goals.{in-Some+in_ok-push_source, in_default}

pub loop-pin-preserved : goal.loop-pin-preserved
loop-pin-preserved c =
    let us = c.loop-pin.invariant.0 in
    elim c.match-driver.branch [
      | in-Some+in_ok-push_source w ↦
          let u = w.in-Some.u in (
            us ++ u ∷ [],
            w.dependencies-is ∙ w.in_ok-push_source.ensures.ok
                ∙ ap₂ push_source w.get-in-Some.ensures c.loop-pin.invariant.1
                ∙ push_source_last u c.args.dependencies.now us,
            drivers_go_on c.args.graph.now c.args.lags.now c.args.v c.loop-pin.pin us u
                c.loop-pin.invariant.2 w.in-Some.ensures.found,
          )
      | in_default w ↦ (
        us,
        w.dependencies-is ∙ c.loop-pin.invariant.1,
        drivers_pass c.args.graph.now c.args.lags.now c.args.v c.loop-pin.pin us c.loop-pin.invariant.2
            w.in_default.ensures.none,
      )
    ]

pub returns : goal.returns
returns c =
    let vertices = c.as_slice.result.now in
    let x = c.index-as_slice-get.result in
    let low : c.get.result < length vertices =
    omega (arith, c.requires.vertex, c.get.ensures, ap length c.as_slice.ensures) in
    let read = slice_get_read vertices (length vertices) c.get.result x refl low c.index-as_slice-get.is in
    let found = sym (ap₂ slice_get c.as_slice.ensures c.get.ensures) ∙ read in
    record {
      sources = c.loop-pin.invariant.0;
      drivers = drivers_end c.args.graph.now c.args.lags.now c.args.v c.loop-pin.pin x c.loop-pin.invariant.0
          c.loop-pin.invariant.2 found (omega (arith, c.len-pin-end.ensures, c.loop-pin-test.false));
      added = c.loop-pin.invariant.1;
    }
