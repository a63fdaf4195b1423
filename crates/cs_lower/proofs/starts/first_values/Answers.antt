use Rattle.std.proofs.Common.{arith}
use Rattle.std.proofs.lemmas.Grind.{common_steps}
use Rattle.cs_lower.proofs.starts.first_values.Goals as goal

pub loop-start-preserved : goal.loop-start-preserved
loop-start-preserved c = λ b.
    let noted = c.in_ok-note.ensures b in let kept = c.loop-start.invariant b in
    grind (arith, common_steps, noted, kept)

pub returns : goal.returns
returns c = λ b. let kept = c.loop-start.invariant b in grind (arith, common_steps, kept)
