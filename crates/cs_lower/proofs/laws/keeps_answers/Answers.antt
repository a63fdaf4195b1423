use Rattle.cs_lower.proofs.DraftOutputs.{lowered_well_formed}
use Rattle.cs_lower.proofs.KeepsAnswers.{keeps_answers}
use Rattle.cs_lower.proofs.laws.keeps_answers.Goals as goal

pub returns-clause-well_formed : goal.returns-clause-well_formed
returns-clause-well_formed c = lowered_well_formed c.args.net.now c.keeps.ensures

pub returns-clause-alike : goal.returns-clause-alike
returns-clause-alike c =
    let net = c.args.net.now in
    keeps_answers net c.keeps.ensures (lowered_well_formed net c.keeps.ensures)
