-- One literal more is covered.
use Rattle.std.proofs.Common.{subst, rules, arith, length, refl}
use Rattle.std.proofs.lemmas.List.{take_all}
use Rattle.std.proofs.lemmas.Option.{slice_get_read}
use Rattle.cs_base.proofs.ListLemmas.{at_contains}
use Rattle.cs_sat.specs.Analyses.{AreCovered}
use Rattle.cs_sat.proofs.Analyses.{next_item}
use Rattle.cs_sat.proofs.Shortening.{covered_empty, covered_more}
use Rattle.cs_sat.proofs.shorten.are_covered.Goals as goal

pub loop-lit-init : goal.loop-lit-init
loop-lit-init c = covered_empty c.args.trail.now c.args.marks.now c.args.skip

pub is_covered-requires-clause-falsified : goal.is_covered-requires-clause-falsified
is_covered-requires-clause-falsified c differ =
    c.requires.falsified _ (at_contains c.args.lits.now c.loop-lit.lit-index _
    (slice_get_read c.args.lits.now (length c.args.lits.now) c.loop-lit.lit-index _ refl c.loop-lit-test.true (search rules))) differ

pub loop-lit-preserved : goal.loop-lit-preserved
loop-lit-preserved c =
    subst (λ xs. AreCovered c.args.trail.now c.args.marks.now xs c.args.skip)
    (next_item c.args.lits.now c.loop-lit.lit-index _ c.loop-lit-test.true (search rules))
    (covered_more c.args.trail.now c.args.marks.now _ _ c.args.skip c.loop-lit.invariant
    (c.is_covered.ensures c.if-not-is_covered.false))

pub returns : goal.returns
returns c _ =
    subst (λ xs. AreCovered c.args.trail.now c.args.marks.now xs c.args.skip)
    (take_all c.loop-lit.lit-index c.args.lits.now (omega arith)) c.loop-lit.invariant
