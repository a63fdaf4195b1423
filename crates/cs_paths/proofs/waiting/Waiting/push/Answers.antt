-- A place in a bucket.
use Rattle.std.proofs.Common.{◌≡◌, ◌++◌, ◌∷◌, ℕ, List, [], get_or, set, ap, sym, subst, ◌∙◌}
use Rattle.cs_paths.specs.Waitings.{Queue, queue, CanWait, IsAdded}
use Rattle.cs_paths.proofs.DefaultLemmas.{get_or_default}
use Rattle.cs_paths.proofs.WaitingLemmas.{longer_queue, refused_queue, pushed_queue, pushed_added}
use Rattle.cs_paths.proofs.waiting.Waiting.push.Goals as goal

pub invariant_of-self-in_err-lengthen : goal.invariant_of-self-in_err-lengthen
invariant_of-self-in_err-lengthen c =
    let q = queue c.self.inside.level c.self.inside.next c.self.inside.marks c.self.inside.later.items in
    longer_queue q c.self.invariant c.args.weight c.args.place
    (subst (λ (r : Queue). CanWait r (c.args.weight, c.args.place)) (sym c.self.view_is) c.requires)
    c.lengthen.new.later.items c.lengthen.ensures.levels c.lengthen.ensures.same

pub invariant_of-self-in_err-push : goal.invariant_of-self-in_err-push
invariant_of-self-in_err-push c =
    let q = queue c.self.inside.level c.self.inside.next c.self.inside.marks c.self.inside.later.items in
    let later = c.lengthen.new.later.items in
    let read : c.index_mut.result.now ≡ get_or later c.args.weight [] =
    c.index_mut.ensures.value ∙ get_or_default later c.args.weight _ [] c.in_ok-lengthen.ensures.long in
    refused_queue q c.self.invariant c.args.weight c.args.place
    (subst (λ (r : Queue). CanWait r (c.args.weight, c.args.place)) (sym c.self.view_is) c.requires)
    later c.lengthen.ensures.levels c.lengthen.ensures.same c.if-weight-self.false c.in_ok-lengthen.ensures.long
    c.push.new.self (c.in_err-push.ensures.err ∙ read)

pub invariant_of-self-2 : goal.invariant_of-self-2
invariant_of-self-2 c =
    let q = queue c.self.inside.level c.self.inside.next c.self.inside.marks c.self.inside.later.items in
    let later = c.lengthen.new.later.items in
    let read : c.index_mut.result.now ≡ get_or later c.args.weight [] =
    c.index_mut.ensures.value ∙ get_or_default later c.args.weight _ [] c.in_ok-lengthen.ensures.long in
    pushed_queue q c.self.invariant c.args.weight c.args.place
    (subst (λ (r : Queue). CanWait r (c.args.weight, c.args.place)) (sym c.self.view_is) c.requires)
    later c.lengthen.ensures.levels c.lengthen.ensures.same c.if-weight-self.false c.in_ok-lengthen.ensures.long
    c.push.new.self (c.in_ok-push.ensures.ok ∙ ap (λ (xs : List ℕ). xs ++ c.args.place ∷ []) read)

pub returns : goal.returns
returns c =
    let q = queue c.self.inside.level c.self.inside.next c.self.inside.marks c.self.inside.later.items in
    let later = c.lengthen.new.later.items in
    let read : c.index_mut.result.now ≡ get_or later c.args.weight [] =
    c.index_mut.ensures.value ∙ get_or_default later c.args.weight _ [] c.in_ok-lengthen.ensures.long in
    subst (λ (r : Queue). IsAdded (c.args.weight, c.args.place) r (queue q.level q.next q.marks
    (set later c.args.weight c.push.new.self))) c.self.view_is
    (pushed_added q c.self.invariant c.args.weight c.args.place
    (subst (λ (r : Queue). CanWait r (c.args.weight, c.args.place)) (sym c.self.view_is) c.requires)
    later c.lengthen.ensures.levels c.lengthen.ensures.same c.if-weight-self.false c.in_ok-lengthen.ensures.long
    c.push.new.self (c.in_ok-push.ensures.ok ∙ ap (λ (xs : List ℕ). xs ++ c.args.place ∷ []) read))
