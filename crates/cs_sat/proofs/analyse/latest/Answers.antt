-- One literal more.
use Rattle.std.proofs.Common.{subst, rules, arith, take, length, refl}
use Rattle.std.proofs.lemmas.List.{take_all}
use Rattle.std.proofs.lemmas.Option.{slice_get_read}
use Rattle.cs_base.proofs.ListLemmas.{at_contains}
use Rattle.cs_sat.specs.Analyses.{IsLatest}
use Rattle.cs_sat.proofs.Literals.{not_in_empty}
use Rattle.cs_sat.proofs.Analyses.{next_item}
use Rattle.cs_sat.proofs.analyse.latest.Goals as goal

pub loop-lit-init : goal.loop-lit-init
loop-lit-init c = λ lit has. not_in_empty lit has

pub latest_of-top-requires-clause-falsified : goal.latest_of-top-requires-clause-falsified
latest_of-top-requires-clause-falsified c =
    c.requires.falsified _ (at_contains c.args.lits.now c.loop-lit.lit-index _
    (slice_get_read c.args.lits.now (length c.args.lits.now) c.loop-lit.lit-index _ refl c.loop-lit-test.true (search rules)))

pub loop-lit-preserved : goal.loop-lit-preserved
loop-lit-preserved c =
    subst (λ xs. IsLatest c.args.trail.now.steps.items xs c.latest_of-top.result)
    (next_item c.args.lits.now c.loop-lit.lit-index _ c.loop-lit-test.true (search rules))
    (c.latest_of-top.ensures (take c.loop-lit.lit-index c.args.lits.now) c.loop-lit.invariant)

pub returns : goal.returns
returns c =
    subst (λ xs. IsLatest c.args.trail.now.steps.items xs c.loop-lit.top)
    (take_all c.loop-lit.lit-index c.args.lits.now (omega arith)) c.loop-lit.invariant
