-- A machine is well formed, and so has an order.
use Rattle.cs_graph.proofs.PathWeights.{closed_path, least_path, least_short}
use Rattle.cs_graph.proofs.laws.least_paths.Goals as goal

pub returns : goal.returns
returns c =
    let g = c.args.machine.now in
    let well = c.keeps.ensures.well_formed in
    record { closed = closed_path g well.order; simple = least_path g well.order; short = least_short g well }
