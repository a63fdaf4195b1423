use Rattle.std.proofs.Common.{map, nat_lt}
use Rattle.cs_modules.specs.Pins.{count_from}
use Rattle.cs_circuit.proofs.Loops.{one_more_row}
use Rattle.cs_circuit.proofs.digits.priorities_text.Goals as goal

pub loop-i-preserved : goal.loop-i-preserved
loop-i-preserved c =
    one_more_row (λ i. map (λ j. nat_lt j i) (count_from 0 c.args.count)) c.loop-i.i c.loop-i.bits.items
    c.add_row.new.bits.items c.loop-i.invariant c.in_ok-add_row.ensures
