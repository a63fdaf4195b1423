-- Each register has something to read, by the tables.
use Rattle.std.proofs.Common.{refl}
use Rattle.cs_share.specs.Planned.{vertex_numbers}
use Rattle.cs_share.specs.Shared.{first_register}
use Rattle.cs_share.proofs.PlanLemmas.{have_sources}
use Rattle.cs_share.proofs.assembly.planned_circuit.Goals as goal

pub planned_registers-requires : goal.planned_registers-requires
planned_registers-requires c =
    let g = c.args.machine.now in
    let numbers = c.in_ok-tables.tables.numbers in
    have_sources g.vertices (vertex_numbers g c.args.names) numbers.vertices (first_register g c.args.names)
    numbers.first_register c.args.plan.now.registers c.args.plan.now.registers
    c.in_ok-tables.ensures.vertices c.in_ok-tables.ensures.register refl c.requires.sources
