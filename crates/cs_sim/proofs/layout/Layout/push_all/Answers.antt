use Rattle.std.proofs.Common.{sym, ◌∙◌, arith}
use Rattle.cs_sim.specs.Layout.{with_cell}
use Rattle.cs_sim.proofs.Counted.{folded_all}
use Rattle.cs_sim.proofs.layout.Layout.push_all.Goals as goal

pub returns : goal.returns
returns c =
    let net = c.args.net.now in
    sym (folded_all (with_cell c.args.wiring.now.driven net.starts) net.cells net.shapes c.loop-place.place c.loop-place.self (omega arith))
    ∙ c.loop-place.invariant
