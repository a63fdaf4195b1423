-- An edge more.
use Rattle.std.proofs.Common.{◌≡◌, subst, rules, Some}
use Rattle.std.specs.Prelude.{slice_get}
use Rattle.cs_share.specs.Registers.{driver_of_edge}
use Rattle.cs_share.proofs.EmitLemmas.{map_on}
use Rattle.cs_share.proofs.emission.edge_drivers.Goals as goal

pub loop-e-preserved : goal.loop-e-preserved
loop-e-preserved c =
    let edges = c.args.machine.now.edges in
    let d = c.edge-edge.result.now in
    let found = subst (λ n. slice_get edges n ≡ Some d) c.new.ensures c.edge-edge.ensures in
    let made = map_on driver_of_edge edges c.loop-e.e c.loop-e.drivers d (search rules) found c.loop-e.invariant in
    search rules
