-- The least that suffices.
use Rattle.std.proofs.Common.{arith}
use Rattle.cs_bank.specs.ContextBits.{context_bits}
use Rattle.cs_bank.proofs.Counters.{enough_bits, least_bits}
use Rattle.cs_bank.proofs.context_bits.context_bits.Goals as goal

pub returns-clause-is : goal.returns-clause-is
returns-clause-is c =
    let contexts = c.args.contexts in
    let low = c.bits.ensures.least (context_bits contexts) (enough_bits contexts) in
    let high = least_bits contexts c.bits.result c.bits.ensures.enough in
    omega (arith, low, high)

pub returns-clause-few : goal.returns-clause-few
returns-clause-few c =
    let few = c.get-count.ensures.few in c.bits.ensures.least 4 (omega (arith, few))
