use Rattle.std.proofs.Common.{arith}
use Rattle.std.proofs.lemmas.Grind.{common_steps}
use Rattle.cs_lower.proofs.driven.number_table.Goals as goal

pub loop-number-preserved : goal.loop-number-preserved
loop-number-preserved c = λ b.
    let put = c.in_ok-insert.ensures.ok b in let kept = c.loop-number.invariant b in
    grind (arith, common_steps, put, kept)

pub returns : goal.returns
returns c = λ b. let kept = c.loop-number.invariant b in grind (arith, common_steps, kept)
