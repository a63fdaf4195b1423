-- The delay of a pin is at most 1,000,000.
use Rattle.std.proofs.Common.{◌+◌, ℕ, sym, ap, arith}
use Rattle.cs_graph.proofs.ArrivalLemmas.{pin_delay_few}
use Rattle.cs_paths.proofs.row.along.Goals as goal

pub overflow_add-result-2 : goal.overflow_add-result-2
overflow_add-result-2 c =
    let delays = c.args.delays.now in
    let pins = c.of_pins-pins.result.now in
    let low = c.requires.vertex in
    let lists = delays.lists in
    let few = pin_delay_few delays c.args.edge.now.to c.args.edge.now.pin pins (omega (arith, low, lists))
    c.of_pins-pins.ensures (c.requires.pin pins c.of_pins-pins.ensures) in
    let room = c.requires.delay in
    let most = few.1 in
    omega (arith, room, most)

pub returns : goal.returns
returns c =
    let delays = c.args.delays.now in
    let pins = c.of_pins-pins.result.now in
    let low = c.requires.vertex in
    let lists = delays.lists in
    let few = pin_delay_few delays c.args.edge.now.to c.args.edge.now.pin pins (omega (arith, low, lists))
    c.of_pins-pins.ensures (c.requires.pin pins c.of_pins-pins.ensures) in
    ap (λ (t : ℕ). (c.args.from.0 + c.args.edge.now.weight, c.args.from.1 + t)) (sym few.0)
