-- Pin by pin.
use Rattle.std.proofs.Common.{◌+◌, get_or, max, sym, ap, ap₂, ◌∙◌, subst, arith}
use Rattle.cs_graph.proofs.LagLemmas.{got}
use Rattle.cs_graph.proofs.OrderLemmas.{driver_one}
use Rattle.cs_graph.proofs.ArrivalLemmas.{IsLatestSoFar, latest_begins, latest_passes, latest_goes_on, latest_ends, pin_delay_few, vertex_delay_few}
use Rattle.cs_graph.proofs.period.arrival_at.Goals as goal
use Rattle.cs_graph.proofs.period.arrival_at.Goals.{in-Some, in_default}

pub loop-pin-init : goal.loop-pin-init
loop-pin-init c =
    let vertex = vertex_delay_few c.args.delays.now c.args.v c.of_vertex.result c.of_vertex.ensures in
    let same = c.from-latest.ensures in
    record {
      so_far = latest_begins c.args.graph.now c.args.lags.now c.args.delays.now c.args.arrivals.now
          c.args.v c.from-latest.result
          (same ∙ sym vertex.0);
      few = λ most few. omega (arith, same, vertex.1);
    }

pub loop-pin-preserved : goal.loop-pin-preserved
loop-pin-preserved c = elim c.match-driver.branch [
  | in-Some w ↦
      let g = c.args.graph.now in
      let lags = c.args.lags.now in
      let delays = c.args.delays.now in
      let arrivals = c.args.arrivals.now in
      let v = c.args.v in
      let i = c.loop-pin.pin in
      let u = w.in-Some.u in
      let counts = c.requires.delays.vertices in
      let delay = pin_delay_few delays v i c.of_pins-pin_delays.result.now (omega (
        arith,
        counts,
        c.requires.vertex,
      ))
      c.of_pins-pin_delays.ensures c.loop-pin-test.true in
      let new = w.latest-is ∙ w.later-latest.ensures
      ∙ ap₂ (λ a b. max c.loop-pin.latest (a + b)) (ap (λ n. get_or arrivals n 0) w.get.ensures) (sym
      delay.0) in
      record {
        so_far = latest_goes_on g lags delays arrivals v i c.loop-pin.latest u c.match-driver.latest
            c.loop-pin.invariant.so_far
            w.in-Some.ensures.found (λ x reads. driver_one g lags v i u x w.in-Some.ensures.found reads) new;
        few = λ most few.
            let old = c.loop-pin.invariant.few most few in
            let arrival = few u in
            omega (arith, old, arrival, new, delay.0, delay.1);
      }
  | in_default w ↦ record {
    so_far = subst (IsLatestSoFar c.args.graph.now c.args.lags.now c.args.delays.now c.args.arrivals.now
        c.args.v (c.loop-pin.pin + 1))
        (sym w.latest-is)
        (latest_passes c.args.graph.now c.args.lags.now c.args.delays.now c.args.arrivals.now c.args.v
        c.loop-pin.pin
        c.loop-pin.latest c.loop-pin.invariant.so_far w.in_default.ensures.none);
    few = λ most few. let old = c.loop-pin.invariant.few most few in let same = w.latest-is in omega
        (arith, old, same);
  }
]

pub returns-clause-latest : goal.returns-clause-latest
returns-clause-latest c =
    let x = got c.args.graph.now.vertices c.args.v c.requires.vertex in
    let count = c.requires.delays.pins c.args.v x.0 c.of_pins-pin_delays.result.now x.1
    c.of_pins-pin_delays.ensures in
    latest_ends c.args.graph.now c.args.lags.now c.args.delays.now c.args.arrivals.now c.args.v
    c.loop-pin.pin c.loop-pin.latest
    x.0 c.loop-pin.invariant.so_far x.1 (omega (arith, count, c.loop-pin-test.false))
