use Rattle.cs_interleave.proofs.Isolated.{isolates_contexts}
use Rattle.cs_interleave.proofs.laws.contexts_are_isolated.Goals as goal

pub returns : goal.returns
returns c = λ images contexts are. isolates_contexts c.args.net.now c.keeps.ensures images contexts are
