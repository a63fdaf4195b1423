-- The latest place is marked, and then the others.
use Rattle.std.proofs.Common.{◌≡◌, ℕ, arith, subst}
use Rattle.std.specs.List.{Contains}
use Rattle.cs_base.specs.declared.formula.Clause.{Clause as Lits}
use Rattle.cs_sat.specs.Reasons.{IsOver}
use Rattle.cs_sat.specs.Analyses.{AreMarkedFalse, IsResolved}
use Rattle.cs_sat.proofs.Literals.{if_ok}
use Rattle.cs_sat.proofs.Analyses.{conflict_resolved}
use Rattle.cs_sat.proofs.Learning.{latest_within, latest_read}
use Rattle.cs_sat.proofs.analyse.mark_conflict.Goals as goal

pub index-requires : goal.index-requires
index-requires c =
    let within = latest_within c.args.trail.now.steps.items c.args.lits.now c.args.top c.requires.latest in
    omega arith

pub mark-requires : goal.mark-requires
mark-requires c =
    let within = latest_within c.args.trail.now.steps.items c.args.lits.now c.args.top c.requires.latest in
    let room = c.requires.trail.room in
    let size = c.requires.clear.size in
    omega arith

pub returns : goal.returns
returns c =
    let trail = c.args.trail.now in
    let steps = trail.steps.items in
    let s = c.index.result.now in
    let found = latest_read steps c.args.lits.now c.args.top s c.requires.latest c.index.ensures in
    let within = latest_within steps c.args.lits.now c.args.top c.requires.latest in
    let room = c.requires.trail.room in
    let size = c.requires.clear.size in
    if_ok c.mark_others.result
    (AreMarkedFalse trail c.args.level c.args.top c.args.lits.now c.negated-skip.result c.mark.new.self c.mark_others.new.marks)
    (λ (low : ℕ). (clauses : _) → (clause : Lits) → Contains clauses clause → clause.lits ≡ c.args.lits.now → IsOver clauses trail
    → IsResolved clauses trail c.args.level c.args.top c.mark_others.new.marks low)
    (λ (low : ℕ) others. conflict_resolved trail c.args.level c.args.top low s c.args.lits.now c.args.marks.now c.mark.new.self
    c.mark_others.new.marks c.requires.clear c.requires.falsified (omega arith) found (c.requires.level s found)
    c.requires.decided c.requires.latest.1 c.in_ok-mark.ensures
    (subst (λ skip. AreMarkedFalse trail c.args.level c.args.top c.args.lits.now skip c.mark.new.self c.mark_others.new.marks low)
    c.negated-skip.ensures others))
    c.mark_others.ensures
