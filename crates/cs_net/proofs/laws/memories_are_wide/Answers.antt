use Rattle.cs_net.proofs.MemoryWidths.{memory_wide}
use Rattle.cs_net.proofs.laws.memories_are_wide.Goals as goal

pub returns : goal.returns
returns c = memory_wide c.args.net.now c.keeps.ensures
