use Rattle.std.proofs.Common.{sym, ◌∙◌, arith}
use Rattle.cs_sim.specs.Layout.{cell_outputs}
use Rattle.cs_sim.proofs.Counted.{joined_all}
use Rattle.cs_sim.proofs.wiring.driven_signals.Goals as goal

pub returns : goal.returns
returns c =
    let net = c.args.net.now in
    sym (joined_all cell_outputs net.cells net.shapes c.loop-place.place c.loop-place.signals.items (omega arith)) ∙ c.loop-place.invariant
