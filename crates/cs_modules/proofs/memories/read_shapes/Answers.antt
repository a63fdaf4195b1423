use Rattle.std.proofs.Common.{rules}
use Rattle.cs_modules.specs.Memories.{read_shape}
use Rattle.cs_modules.proofs.Pushed.{one_more_counted}
use Rattle.cs_modules.proofs.memories.read_shapes.Goals as goal

pub loop-i-preserved : goal.loop-i-preserved
loop-i-preserved c =
    one_more_counted (read_shape c.args.cell.now c.args.width) c.loop-i.i
    _ c.loop-i.reads c.push.new.self (search rules) c.loop-i.invariant c.in_ok-push.ensures.ok
