use Rattle.cs_lower.proofs.LeastLemmas.{least_next_falls, least_next_stays}
use Rattle.cs_lower.proofs.rings.least_of.Goals.{then-bit-least, else-bit-least}
use Rattle.cs_lower.proofs.rings.least_of.Goals as goal

pub loop-bit-preserved : goal.loop-bit-preserved
loop-bit-preserved c = elim c.if-bit-least.branch [
  | then-bit-least w ↦
      least_next_falls c.loop-bit.least c.if-bit-least.least c.loop-bit.bit-index c.args.bits.now c.loop-bit.invariant
      c.loop-bit-test.true w.least-is w.if-bit-least.true
  | else-bit-least w ↦
      least_next_stays c.loop-bit.least c.if-bit-least.least c.loop-bit.bit-index c.args.bits.now c.loop-bit.invariant
      c.loop-bit-test.true w.least-is w.if-bit-least.false
]
