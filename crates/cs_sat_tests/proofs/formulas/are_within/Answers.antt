-- All literals are within the number.
use Rattle.std.proofs.Common.{◌≡◌, length, ap, arith}
use Rattle.std.proofs.lemmas.Option.{slice_get_within}
use Rattle.cs_base.specs.declared.formula.Lit.{Lit as Literal}
use Rattle.cs_sat_tests.proofs.Lists.{all_of}
use Rattle.cs_sat_tests.proofs.formulas.are_within.Goals as goal

pub returns : goal.returns
returns c _ =
    all_of _ c.args.lits.now (λ i lit found.
    let within = slice_get_within c.args.lits.now i lit found in
    c.loop-lit.invariant i lit (omega arith) found)
