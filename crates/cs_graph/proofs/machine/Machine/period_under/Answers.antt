-- Lags make no loop without a register.
use Rattle.std.proofs.Common.{subst}
use Rattle.cs_graph.specs.Order.{TellsLoop}
use Rattle.cs_graph.proofs.RetimedLoops.{lags_no_loop}
use Rattle.cs_graph.proofs.machine.Machine.period_under.Goals as goal

pub unreachable-requires : goal.unreachable-requires
unreachable-requires c =
    let g = c.self.inside.graph in
    let lags = c.args.lags.now in
    let told = subst (λ e. TellsLoop g lags e) c.in-Err-Loop.field-0-is c.in-Err-Loop.ensures.err in
    lags_no_loop g c.self.invariant.0.well_formed.order lags c.in-Err-Loop.field-0-0 told.0
