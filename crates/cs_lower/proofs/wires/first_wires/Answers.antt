use Rattle.std.proofs.Common.{arith}
use Rattle.std.proofs.lemmas.Grind.{common_steps}
use Rattle.cs_lower.proofs.wires.first_wires.Goals as goal

pub loop-signal-preserved : goal.loop-signal-preserved
loop-signal-preserved c = λ b.
    let noted = c.in_ok-note.ensures b in let kept = c.loop-signal.invariant b in
    grind (arith, common_steps, noted, kept)

pub returns : goal.returns
returns c = λ b. let kept = c.loop-signal.invariant b in grind (arith, common_steps, kept)
