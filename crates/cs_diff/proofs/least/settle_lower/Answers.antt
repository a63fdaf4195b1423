-- Where there is a solution no loop is below 0.
use Rattle.cs_diff.proofs.FloorLemmas.{lower_refutes}
use Rattle.cs_diff.proofs.least.settle_lower.Goals as goal

pub unreachable-requires : goal.unreachable-requires
unreachable-requires c =
    lower_refutes c.args.sys.now c.in-Err-Negative.field-0-0 c.requires.solvable
    (rw c.in-Err-Negative.field-0-is at c.in-Err-Negative.ensures.err)
