use Rattle.std.proofs.Common.{arith, subst, sym}
use Rattle.cs_json.specs.declared.document.NetDecl.{NetDecl}
use Rattle.cs_circuit.specs.Order.{AreDistinct}
use Rattle.cs_circuit.proofs.Names.{distinct_nets}
use Rattle.cs_circuit.proofs.document.sorted_nets.Goals as goal

pub nets_by_name-requires : goal.nets_by_name-requires
nets_by_name-requires c =
    subst (AreDistinct (λ (net : NetDecl). net.name)) (sym c.in_ok-nets.ensures)
    (distinct_nets c.args.circuit.now (omega arith))
