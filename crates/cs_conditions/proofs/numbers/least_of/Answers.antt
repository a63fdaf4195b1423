use Rattle.std.proofs.Common.{◌∙◌, ap, sym, get_or, Some}
use Rattle.std.specs.Prelude.{min, unwrap_or}
use Rattle.cs_conditions.proofs.Duplicates.{least-take}
use Rattle.cs_conditions.proofs.numbers.least_of.Goals as goal

pub loop-number-preserved : goal.loop-number-preserved
loop-number-preserved c =
    let i = c.loop-number.number-index in
    let xs = c.args.numbers.now in
    let n = get_or xs i 0 in
    ap Some c.lesser.ensures
    ∙ ap (λ found. Some (min n (unwrap_or found n))) c.loop-number.invariant
    ∙ sym (least-take xs i c.loop-number-test.true)
