-- A context more.
use Rattle.cs_bank.proofs.CodeLemmas.{start_more}
use Rattle.cs_bank.proofs.memories.banked_start.Goals as goal

pub loop-k-preserved : goal.loop-k-preserved
loop-k-preserved c =
    start_more c.loop-k.k c.args.memory.now c.args.entry.now c.loop-k.start.items c.push_start.new.start.items
    c.loop-k.invariant c.in_ok-push_start.ensures
