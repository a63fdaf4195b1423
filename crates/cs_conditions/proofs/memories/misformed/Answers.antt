use Rattle.std.proofs.Common.{◌∙◌, Some, ap, ap₂, option_map, sym}
use Rattle.cs_conditions.specs.declared.error.NetError.TheVariants.{MemoryForm}
use Rattle.cs_conditions.proofs.MemoryRules.{misform, no_misform}
use Rattle.cs_conditions.proofs.memories.misformed.Goals as goal

pub returns-in_default : goal.returns-in_default
returns-in_default c =
    no_misform c.args.top.now c.args.cell.now
    (sym c.in_ok-parameter.ensures ∙ ap (option_map (λ n. n.now)) c.in_default.is)

pub returns : goal.returns
returns c =
    let facts =
    misform c.args.top.now c.args.cell.now c.in-Some.parameter.now (sym c.is_memory.ensures ∙ c.if-not-is_memory.false)
    (sym c.in_ok-parameter.ensures ∙ ap (option_map (λ n. n.now)) c.in-Some.is) in
    (facts.0, facts.1 ∙ ap Some (ap₂ MemoryForm (sym c.in_ok-copy.ensures) (sym c.in_ok-from_str.ensures)))
