use Rattle.std.proofs.Common.{◌≡◌, drop, fold}
use Rattle.cs_sim.specs.Clock.{evaluated_at, with_constants}
use Rattle.cs_sim.proofs.settle.settle.Given as goal

-- the parts that are left make the settled values
abbrev pub invariant-loop-v : goal.invariant-loop-v
invariant-loop-v l =
    fold (evaluated_at l.held l.row l.parts) l.values (drop l.v-index l.order)
    ≡ fold (evaluated_at l.held l.row l.parts) (with_constants l.fn.values) l.order
