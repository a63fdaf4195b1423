-- The first mark.
use Rattle.std.proofs.Common.{ℕ, List, subst, sym}
use Rattle.cs_paths.specs.Waitings.{queue, Advances}
use Rattle.cs_paths.proofs.WaitingLemmas.{IsIdle, GoesOn, goes_further, idle_before, takes_first}
use Rattle.cs_paths.proofs.waiting.Waiting.pop.Goals as goal

pub returns-in-Some-clause-some : goal.returns-in-Some-clause-some
returns-in-Some-clause-some c =
    takes_first (queue c.self.inside.level c.self.inside.next c.self.inside.marks c.self.inside.later.items)
    c.self.invariant c.in-Some.place c.take_first.new.self c.in-Some.ensures.some c.args.self.now
    (subst (GoesOn c.args.self.now) (sym c.self.view_is) c.loop-place.invariant)

pub returns-then-not-advance-clause-none : goal.returns-then-not-advance-clause-none
returns-then-not-advance-clause-none c =
    let q = queue c.self.inside.level c.self.inside.next c.self.inside.marks c.self.inside.later.items in
    idle_before c.args.self.now q (subst (GoesOn c.args.self.now) (sym c.self.view_is) c.loop-place.invariant)
    (subst (λ (marks : List ℕ). IsIdle (queue q.level q.next marks q.later)) c.in_default.ensures.same
    c.if-not-advance.ensures.no)

pub returns-then-not-advance-clause-idle : goal.returns-then-not-advance-clause-idle
returns-then-not-advance-clause-idle c =
    subst IsIdle (sym c.if-not-advance.ensures.same) c.if-not-advance.ensures.no

pub loop-place-preserved : goal.loop-place-preserved
loop-place-preserved c =
    let q = queue c.self.inside.level c.self.inside.next c.self.inside.marks c.self.inside.later.items in
    goes_further c.args.self.now q c.advance.new.self c.self.invariant
    (subst (GoesOn c.args.self.now) (sym c.self.view_is) c.loop-place.invariant)
    (subst (λ (marks : List ℕ). Advances (queue q.level q.next marks q.later) c.advance.new.self)
    c.in_default.ensures.same c.if-not-advance.ensures.yes)
