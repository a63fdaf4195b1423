-- Halved once more.
use Rattle.std.proofs.Common.{◌∙◌}
use Rattle.cs_bank.proofs.CodeLemmas.{digit_more}
use Rattle.cs_bank.proofs.context_bits.digit.Goals as goal

pub loop-preserved : goal.loop-preserved
loop-preserved c = c.loop.invariant ∙ digit_more c.args.j c.loop.counter c.loop.rest c.loop-test.true
