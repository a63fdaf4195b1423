-- The values make each clause true.
use Rattle.std.proofs.Common.{arith}
use Rattle.cs_sat.proofs.Searches.{model_of}
use Rattle.cs_sat.proofs.search.Search.bits.Goals as goal

pub returns : goal.returns
returns c =
    model_of c.args.f.now c.args.self.now.trail c.loop-var.bits c.requires.in_range c.requires.satisfied (omega arith)
    (λ i below. c.loop-var.invariant.each i (omega arith))
