-- Each end has a signal.
use Rattle.cs_share.proofs.PlanLemmas.{have_ends}
use Rattle.cs_share.specs.Planned.{vertex_numbers}
use Rattle.cs_share.specs.Shared.{first_register}
use Rattle.cs_share.proofs.assembly.planned_tables.Goals as goal

pub end_signals-requires-clause-each : goal.end_signals-requires-clause-each
end_signals-requires-clause-each c =
    let g = c.args.machine.now in
    let names = c.args.names.now in
    let numbers = c.in_ok-made.made.numbers in
    have_ends g.vertices g.edges (vertex_numbers g names) numbers.vertices (first_register g names) numbers.first_register
    c.args.plan.now.ends c.as_slice.result.now
    c.in_ok-made.ensures.vertices c.in_ok-made.ensures.register c.as_slice.ensures c.requires.ends
