-- One source more.
use Rattle.std.proofs.Common.{arith}
use Rattle.std.proofs.lemmas.Grind.{common_steps}
use Rattle.cs_order.proofs.CallerLemmas.{push_source_last}
use Rattle.cs_order.proofs.dependencies.Dependencies.add_vertex.Goals as goal

pub loop-source-preserved : goal.loop-source-preserved
loop-source-preserved c =
    rw (c.in_ok-push_source.ensures.ok, c.loop-source.invariant, push_source_last)
    (grind (arith, common_steps))
