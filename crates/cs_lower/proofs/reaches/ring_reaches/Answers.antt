use Rattle.std.proofs.Common.{arith}
use Rattle.std.proofs.lemmas.Grind.{common_steps}
use Rattle.cs_lower.proofs.reaches.ring_reaches.Goals as goal

pub loop-place-preserved : goal.loop-place-preserved
loop-place-preserved c = λ b.
    let noted = c.in_ok-note.ensures b in let kept = c.loop-place.invariant b in
    grind (arith, common_steps, noted, kept)

pub returns : goal.returns
returns c = λ b. let kept = c.loop-place.invariant b in grind (arith, common_steps, kept)
