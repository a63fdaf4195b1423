-- The next bucket.
use Rattle.std.proofs.Common.{◌≡◌, ◌+◌, ◌<◌, ℕ, List, [], length, set, sym, subst, ◌∙◌, arith}
use Rattle.cs_paths.specs.Marks.{IsMarked}
use Rattle.cs_paths.specs.Waitings.{Queue, queue, bucket_of, AreLow, Gathers, Advances}
use Rattle.cs_paths.proofs.DefaultLemmas.{get_or_default}
use Rattle.cs_paths.proofs.WaitingLemmas.{IsIdle, nothing_later, next_low, gathered_queue, gathered_advances}
use Rattle.cs_paths.proofs.waiting.Waiting.advance.Goals as goal

pub returns-then-above-len-clause-no : goal.returns-then-above-len-clause-no
returns-then-above-len-clause-no c =
    let q = queue c.self.inside.level c.self.inside.next c.self.inside.marks c.self.inside.later.items in
    let none = subst (λ (r : Queue). (p : ℕ) → IsMarked r.marks p → ⊥) (sym c.self.view_is) c.requires in
    subst IsIdle c.self.view_is
    (nothing_later q c.self.invariant none (omega (arith, c.if-above-len.true, c.len.ensures)))

pub gather-requires : goal.gather-requires
gather-requires c =
    let q = queue c.self.inside.level c.self.inside.next c.self.inside.marks c.self.inside.later.items in
    let none = subst (λ (r : Queue). (p : ℕ) → IsMarked r.marks p → ⊥) (sym c.self.view_is) c.requires in
    let within : q.level + 1 < length q.later = omega (arith, c.if-above-len.false, c.len.ensures) in
    let read : c.index_mut.result.now ≡ bucket_of q (q.level + 1) =
    c.index_mut.ensures.value ∙ get_or_default q.later (q.level + 1) _ [] within in
    subst AreLow (sym read) (next_low q c.self.invariant none)

pub invariant_of-self : goal.invariant_of-self
invariant_of-self c =
    let q = queue c.self.inside.level c.self.inside.next c.self.inside.marks c.self.inside.later.items in
    let none = subst (λ (r : Queue). (p : ℕ) → IsMarked r.marks p → ⊥) (sym c.self.view_is) c.requires in
    let within : q.level + 1 < length q.later = omega (arith, c.if-above-len.false, c.len.ensures) in
    let read : c.index_mut.result.now ≡ bucket_of q (q.level + 1) =
    c.index_mut.ensures.value ∙ get_or_default q.later (q.level + 1) _ [] within in
    gathered_queue q c.self.invariant none c.gather.new.marks within
    (subst (λ (xs : List ℕ). Gathers xs q.marks c.gather.new.marks) read c.gather.ensures.gathers)
    c.gather.new.bucket c.gather.ensures.empty

pub returns-clause-yes : goal.returns-clause-yes
returns-clause-yes c =
    let q = queue c.self.inside.level c.self.inside.next c.self.inside.marks c.self.inside.later.items in
    let none = subst (λ (r : Queue). (p : ℕ) → IsMarked r.marks p → ⊥) (sym c.self.view_is) c.requires in
    let within : q.level + 1 < length q.later = omega (arith, c.if-above-len.false, c.len.ensures) in
    let read : c.index_mut.result.now ≡ bucket_of q (q.level + 1) =
    c.index_mut.ensures.value ∙ get_or_default q.later (q.level + 1) _ [] within in
    subst (λ (r : Queue). Advances r (queue (q.level + 1) 0 c.gather.new.marks
    (set q.later (q.level + 1) c.gather.new.bucket))) c.self.view_is
    (gathered_advances q c.self.invariant none c.gather.new.marks within
    (subst (λ (xs : List ℕ). Gathers xs q.marks c.gather.new.marks) read c.gather.ensures.gathers)
    c.gather.new.bucket c.gather.ensures.empty)
