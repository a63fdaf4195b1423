use Rattle.std.proofs.Common.{◌≡◌, ◌∙◌, ap, arith, min, sym}
use Rattle.cs_base.specs.declared.limit.Counted.TheVariants.{AddressBits}
use Rattle.cs_net.specs.Accept.{above_limit}
use Rattle.cs_net.proofs.LimitLemmas.{wide_fault}
use Rattle.cs_net.proofs.limits.memory_fault.Goals as goal

pub returns-in-Some : goal.returns-in-Some
returns-in-Some c =
    let bits = c.in-Some.bits in
    let few = c.from.type_inv in
    let same = c.from.ensures in
    let capped : c.from.result ≡ min bits 18446744073709551615 = omega (arith, few, same) in
    wide_fault c.args.shapes.now bits c.above_limit.result (sym c.in-Some.is ∙ c.wide_address.ensures.first) c.in-Some.ensures.wide
    (c.above_limit.ensures bits capped ∙ ap (above_limit AddressBits bits) c.from-in-Some.ensures)
