-- One literal more is marked.
use Rattle.std.proofs.Common.{subst, rules, arith, length, ◌∙◌}
use Rattle.std.proofs.lemmas.List.{take_all}
use Rattle.cs_sat.specs.Analyses.{AreMarkedFalse}
use Rattle.cs_sat.proofs.Analyses.{marked_empty, marked_more, next_item}
use Rattle.cs_base.proofs.ListLemmas.{at_contains}
use Rattle.std.proofs.lemmas.Option.{slice_get_read}
use Rattle.std.proofs.Common.{refl}
use Rattle.cs_sat.proofs.analyse.mark_others.Goals as goal

pub loop-lit-init : goal.loop-lit-init
loop-lit-init c = marked_empty c.args.trail.now c.args.level c.args.lowest c.args.skip c.args.marks.now

pub mark_other-requires-clause-falsified : goal.mark_other-requires-clause-falsified
mark_other-requires-clause-falsified c differ =
    c.requires.falsified _ (at_contains c.args.lits.now c.loop-lit.lit-index _
    (slice_get_read c.args.lits.now (length c.args.lits.now) c.loop-lit.lit-index _ refl c.loop-lit-test.true (search rules))) differ

pub mark_other-requires-clause-size : goal.mark_other-requires-clause-size
mark_other-requires-clause-size c = c.loop-lit.invariant.size ∙ c.requires.size

pub loop-lit-preserved : goal.loop-lit-preserved
loop-lit-preserved c =
    subst (λ xs. AreMarkedFalse c.args.trail.now c.args.level c.args.lowest xs c.args.skip c.args.marks.now c.mark_other.new.marks c.in_ok-low.low)
    (next_item c.args.lits.now c.loop-lit.lit-index _ c.loop-lit-test.true (search rules))
    (marked_more c.args.trail.now c.args.level c.args.lowest c.loop-lit.low _ _ _ c.args.skip c.args.marks.now c.loop-lit.marks
    c.mark_other.new.marks c.loop-lit.invariant c.in_ok-low.ensures)

pub returns : goal.returns
returns c =
    subst (λ xs. AreMarkedFalse c.args.trail.now c.args.level c.args.lowest xs c.args.skip c.args.marks.now c.loop-lit.marks c.loop-lit.low)
    (take_all c.loop-lit.lit-index c.args.lits.now (omega arith)) c.loop-lit.invariant
