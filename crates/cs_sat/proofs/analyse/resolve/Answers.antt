-- The literal is exchanged for those of its reason.
use Rattle.std.proofs.Common.{◌≡◌, ℕ, ◌-◌, ◌++◌, Some, length, refl, arith, subst}
use Rattle.std.specs.List.{Contains, slice_get}
use Rattle.std.proofs.lemmas.Option.{slice_get_read}
use Rattle.cs_sat.specs.Analyses.{AreMarkedFalse, IsResolved}
use Rattle.cs_sat.proofs.Literals.{if_ok}
use Rattle.cs_sat.proofs.Analyses.{marking_within, reason_false, reason_listed, resolved}
use Rattle.cs_sat.proofs.analyse.resolve.Goals as goal

pub index-step-requires : goal.index-step-requires
index-step-requires c =
    let within = marking_within c.args.trail.now c.args.level c.args.at c.args.lowest c.args.marks.now c.requires.resolved.marking c.requires.marked in
    omega arith

pub returns-in_default-clause_at : goal.returns-in_default-clause_at
returns-in_default-clause_at c =
    let trail = c.args.trail.now in
    let s = c.index-step.result.now in
    let within = marking_within trail c.args.level c.args.at c.args.lowest c.args.marks.now c.requires.resolved.marking c.requires.marked in
    let found : slice_get trail.steps.items c.args.at ≡ Some s =
    slice_get_read trail.steps.items (length trail.steps.items) c.args.at s refl within c.index-step.ensures in
    let clauses = c.args.base.now ++ c.args.lines.now in
    absurd (reason_listed clauses trail c.args.at s c.in-Propagated.number c.requires.over found c.in-Propagated.is
    c.in_default-clause_at.ensures.none)

pub mark_others-requires-clause-falsified : goal.mark_others-requires-clause-falsified
mark_others-requires-clause-falsified c lit has differ =
    let trail = c.args.trail.now in
    let s = c.index-step.result.now in
    let within = marking_within trail c.args.level c.args.at c.args.lowest c.args.marks.now c.requires.resolved.marking c.requires.marked in
    let found : slice_get trail.steps.items c.args.at ≡ Some s =
    slice_get_read trail.steps.items (length trail.steps.items) c.args.at s refl within c.index-step.ensures in
    let clauses = c.args.base.now ++ c.args.lines.now in
    reason_false clauses trail c.args.at s c.in-Propagated.number c.in-Some.clause.now c.requires.over found c.in-Propagated.is
    c.in-Some.ensures.some lit (subst (λ xs. Contains xs lit) c.as_slice.ensures has) differ

pub returns : goal.returns
returns c =
    let trail = c.args.trail.now in
    let s = c.index-step.result.now in
    let within = marking_within trail c.args.level c.args.at c.args.lowest c.args.marks.now c.requires.resolved.marking c.requires.marked in
    let found : slice_get trail.steps.items c.args.at ≡ Some s =
    slice_get_read trail.steps.items (length trail.steps.items) c.args.at s refl within c.index-step.ensures in
    let clauses = c.args.base.now ++ c.args.lines.now in
    let room = c.requires.over.sound.room in
    let size = c.requires.resolved.marking.size in
    if_ok c.mark_others.result
    (AreMarkedFalse trail c.args.level c.args.lowest c.as_slice.result.now s.lit c.unmark.new.self c.mark_others.new.marks)
    (IsResolved clauses trail c.args.level (c.args.at - 1) c.mark_others.new.marks)
    (λ (low : ℕ) others. resolved clauses trail c.args.level c.args.at c.args.lowest low s c.in-Propagated.number
    c.in-Some.clause.now c.args.marks.now c.unmark.new.self c.mark_others.new.marks c.requires.over c.requires.resolved
    c.requires.lower found c.in-Propagated.is c.in-Some.ensures.some (omega arith) c.unmark.ensures.marked
    c.unmark.ensures.touched
    (subst (λ xs. AreMarkedFalse trail c.args.level c.args.lowest xs s.lit c.unmark.new.self c.mark_others.new.marks low)
    c.as_slice.ensures others))
    c.mark_others.ensures
