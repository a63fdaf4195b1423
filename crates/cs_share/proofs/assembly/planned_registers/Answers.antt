-- Each register has something to read.
use Rattle.std.proofs.Common.{refl}
use Rattle.cs_share.proofs.PlanLemmas.{have_sources}
use Rattle.cs_share.proofs.assembly.planned_registers.Goals as goal

pub register_parts-requires : goal.register_parts-requires
register_parts-requires c =
    let numbers = c.args.tables.now.numbers in
    have_sources c.args.machine.now.vertices numbers.vertices numbers.vertices numbers.first_register numbers.first_register
    c.args.plan.now.registers c.as_slice.result.now refl refl c.as_slice.ensures c.requires
