-- One digit more.
use Rattle.cs_cells.proofs.NumberLemmas.{more_bits}
use Rattle.cs_cells.proofs.clauses.bits_of.Goals as goal

pub loop-preserved : goal.loop-preserved
loop-preserved c =
    more_bits c.loop.bits.items c.push.new.self.items c.args.count c.loop.counter c.loop.rest c.args.number
    c.in_ok-push.ensures.items c.loop-test.true c.loop.invariant
