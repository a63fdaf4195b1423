use Rattle.cs_share.proofs.ReadsBack.{emission_is_read_back}
use Rattle.cs_share.proofs.laws.emissions_are_read_back.Goals as goal

pub returns : goal.returns
returns c = λ g names document machine fit emission. emission_is_read_back g machine names fit document emission
