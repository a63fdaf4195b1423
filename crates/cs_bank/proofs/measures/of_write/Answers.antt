-- The pins and the guard.
use Rattle.std.proofs.Common.{arith}
use Rattle.cs_bank.proofs.measures.of_write.Goals as goal

pub returns : goal.returns
returns c first v u =
    let pins = c.of_write_pins-pins.ensures first v in
    let guard = c.of_guard.ensures u in
    let sum = c.saturating_add.ensures in
    omega (arith, pins, guard, sum)
