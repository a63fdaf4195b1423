-- Propagation from the line decides, and is taken back.
use Rattle.std.proofs.Common.{refl, subst, OnOk, IfErr, IfOk, IsTrue, map, [], ◌↔◌}
use Rattle.cs_base.specs.Derivations.{negated, IsRup}
use Rattle.cs_rup.specs.Settings.{AllFalse}
use Rattle.cs_rup.specs.Trails.{set_by, IsSound, Explains}
use Rattle.cs_rup.specs.Checkers.{IsSettled, Settles}
use Rattle.cs_rup.proofs.Checkers.{conflict_rup, rup_answer, kept_undone}
use Rattle.cs_rup.proofs.checker.Checker.is_rup.Goals as goal

pub returns-then-self-clause-answer : goal.returns-then-self-clause-answer
returns-then-self-clause-answer c =
    let clauses = c.self.inside.store.clauses in
    let conflict = subst (λ refuted. Settles c.self.inside.store refuted (set_by c.self.inside.trail) c.self.inside.seen) c.if-self.true
    c.self.invariant.settles in (
      λ _. subst (λ clauses. IsRup clauses c.args.line.now) c.self.view_is (conflict_rup clauses c.args.line.now conflict),
      λ _. refl,
    )

pub returns-clause-answer : goal.returns-clause-answer
returns-clause-answer c =
    let clauses = c.self.inside.store.clauses in
    let start = set_by c.self.inside.trail in
    let end = c.propagate_from-end.result in
    let is : IsSettled c.self.inside.store start c.self.inside.seen =
    subst (λ refuted. Settles c.self.inside.store refuted start c.self.inside.seen) c.if-self.false c.self.invariant.settles in
    subst (λ clauses. IfOk c.meets_conflict.result (λ yes. IsTrue yes ↔ IsRup clauses c.args.line.now)) c.self.view_is
    (rup_answer clauses c.propagate_from-end.new.store c.args.line.now start (set_by c.propagate_from-end.new.trail) end
    c.meets_conflict.result c.propagate_from-end.ensures.rewatched.clauses is.sound c.propagate_from-end.ensures.watched
    (subst (λ lits. OnOk end (AllFalse (set_by c.propagate_from-end.new.trail) lits)) c.as_slice.ensures
    c.propagate_from-end.ensures.given)
    (subst (λ lits. IfErr end (λ stop. IsSound clauses [] start → Explains clauses (map negated lits) stop)) c.as_slice.ensures
    c.propagate_from-end.ensures.err)
    c.meets_conflict.ensures)

pub invariant_of-self : goal.invariant_of-self
invariant_of-self c =
    kept_undone c.self.inside.store c.propagate_from-end.new.store c.self.inside.refuted c.self.inside.trail
    c.propagate_from-end.new.trail c.undo.new.self c.self.inside.seen c.if-self.false c.self.invariant
    c.propagate_from-end.ensures.listed c.propagate_from-end.ensures.rewatched c.propagate_from-end.ensures.grows c.undo.ensures.undone c.undo.ensures.empty
