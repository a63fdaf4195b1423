use Rattle.std.proofs.Common.{◌∙◌, ap, Some, None}
use Rattle.cs_conditions.specs.declared.error.NetError.TheVariants.{ConstZ}
use Rattle.cs_conditions.specs.Conditions.{is_open_input}
use Rattle.cs_conditions.proofs.FirstErrors.{first_error}
use Rattle.cs_modules.proofs.Connections.{name_at}
use Rattle.cs_conditions.proofs.constants.open_input.Goals as goal

pub returns-in-None : goal.returns-in-None
returns-in-None c =
    first_error is_open_input (λ c. ConstZ c.cell) c.args.top.now.cells c.args.bits.now None c.requires c.in-None.ensures

pub returns-in_ok-name_at-in-Some : goal.returns-in_ok-name_at-in-Some
returns-in_ok-name_at-in-Some c =
    ap (λ name. Some (ConstZ name)) c.in_ok-name_at-in-Some.ensures
    ∙ ap (λ cells. Some (ConstZ (name_at cells c.in-Some.bit.cell))) c.as_slice.ensures
    ∙ first_error is_open_input (λ c. ConstZ c.cell) c.args.top.now.cells c.args.bits.now (Some c.in-Some.bit) c.requires c.in-Some.ensures
