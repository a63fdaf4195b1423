use Rattle.std.proofs.Common.{◌+◌, rules}
use Rattle.cs_base.specs.declared.signal.Signal.TheVariants.{Bit}
use Rattle.cs_circuit.proofs.Loops.{one_more_behind}
use Rattle.cs_circuit.proofs.memories.add_read_data.Goals as goal

pub loop-j-preserved : goal.loop-j-preserved
loop-j-preserved c =
    one_more_behind (λ j. Bit (c.args.read.now.first + j)) c.loop-j.j c.args.signals.now.items c.loop-j.signals.items
    c.push.new.self.items _ (search rules) c.loop-j.invariant c.in_ok-push.ensures.items
