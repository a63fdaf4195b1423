use Rattle.cs_conditions.proofs.Refusals.{no_bad_pins}
use Rattle.cs_net.proofs.acceptance.accept_drafted.Goals as goal

pub make_draft-requires : goal.make_draft-requires
make_draft-requires c = no_bad_pins c.args.top.now c.requires.early
