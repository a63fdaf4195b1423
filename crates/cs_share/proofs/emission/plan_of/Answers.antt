use Rattle.std.proofs.Common.{◌∙◌, subst, sym}
use Rattle.std.specs.Prelude.{All}
use Rattle.cs_prefix.specs.Prefixes.{IsSmallDriver}
use Rattle.cs_share.proofs.PlannedNeeds.{small_drivers}
use Rattle.cs_share.proofs.emission.plan_of.Goals as goal

pub plan_registers-requires-clause-small : goal.plan_registers-requires-clause-small
plan_registers-requires-clause-small c =
    subst (All IsSmallDriver) (sym (c.as_slice.ensures ∙ c.in_ok-drivers.ensures)) (small_drivers c.args.machine.now c.keeps.ensures)
