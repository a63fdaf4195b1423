use Rattle.cs_isolate.specs.Isolating.{own_names}
use Rattle.cs_isolate.proofs.Isolating.{isolating}
use Rattle.cs_share.proofs.ReadsBack.{emission_is_read_back}
use Rattle.cs_isolate.proofs.laws.emissions_isolate.Goals as goal

pub returns : goal.returns
returns c = λ images contexts g document are machine fit alike emission.
    let net = c.args.net.now in
    isolating net c.keeps.ensures images contexts are g document
    (emission_is_read_back g machine (own_names net) fit document emission) alike
