use Rattle.std.specs.Cmp.{nat_cmp_total}
use Rattle.std.specs.FinMap.{get-from_entries}
use Rattle.cs_io.proofs.memory.plan_at.Goals as goal

pub loop-number-init : goal.loop-number-init
loop-number-init c = get-from_entries nat_cmp_total _ _
