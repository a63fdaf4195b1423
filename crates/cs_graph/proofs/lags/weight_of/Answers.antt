-- Lags up to 2^31 and a weight below 2^32 make no sum out of range.
use Rattle.std.proofs.Common.{arith}
use Rattle.std.proofs.lemmas.Int.{ints}
use Rattle.cs_graph.proofs.lags.weight_of.Goals as goal

pub overflow_add-result : goal.overflow_add-result
overflow_add-result c =
    let to = c.args.edge.now.to in
    omega (arith, ints, c.lag_of.ensures, (c.requires.each to).high, (c.requires.each to).low, c.from.ensures)

pub overflow_sub-result : goal.overflow_sub-result
overflow_sub-result c =
    let to = c.args.edge.now.to in
    let from = c.args.edge.now.from in
    omega (arith, ints, c.lag_of.ensures, (c.requires.each to).high, (c.requires.each to).low, c.from.ensures, c.lag_of-2.ensures, (c.requires.each from).high, (c.requires.each from).low)
