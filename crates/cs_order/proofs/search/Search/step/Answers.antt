-- A vertex is left, a loop is met, or a vertex is entered.
use Rattle.std.proofs.Common.{◌≡◌, ℕ, ◌-◌, Some, length, arith, inl, inr}
use Rattle.std.specs.Prelude.{slice_get}
use Rattle.std.proofs.lemmas.Option.{slice_get_within}
use Rattle.cs_order.specs.declared.state.State.TheVariants.{Unseen, Open, Placed}
use Rattle.cs_order.specs.Graphs.{DependsOn}
use Rattle.cs_order.proofs.SearchLemmas.{leaving, entered, seen_stay, less_left, less_entered, leads_last, pending_is}
use Rattle.cs_order.proofs.search.Search.step.Goals as goal

pub next_source-requires-clause-within : goal.next_source-requires-clause-within
next_source-requires-clause-within c =
    let s = c.requires.search in
    omega (arith, s.state_count, slice_get_within _ c.args.vertex Open (s.on_path.have _ _ c.requires.last))

pub leave-requires : goal.leave-requires
leave-requires c =
    let s = c.requires.search in
    rw c.next_source.ensures.states
    (slice_get_within _ c.args.vertex Open (s.on_path.have _ _ c.requires.last))

pub returns-in_default-clause-search : goal.returns-in_default-clause-search
returns-in_default-clause-search c =
    let n = c.next_source.new.self in
    let g = c.args.graph.now in
    let last : slice_get n.path.items (length n.path.items - 1) ≡ Some c.args.vertex =
    rw c.next_source.ensures.path c.requires.last in
    let ready : (u : ℕ) → DependsOn g c.args.vertex u → slice_get n.states.items u ≡ Some Placed =
    rw c.next_source.ensures.states c.in_default.ensures.none in
    let left = c.in_ok-leave.ensures in
    rw (left.states, left.path, left.order, c.leave.ensures.cursors)
    (leaving g n.states.items n.cursors.items n.path.items n.order.items c.args.vertex
    c.next_source.ensures.search last ready)

pub returns-in_default-clause-seen : goal.returns-in_default-clause-seen
returns-in_default-clause-seen c =
    let was = c.requires.search.on_path.have _ c.args.vertex c.requires.last in
    rw (c.in_ok-leave.ensures.states, c.next_source.ensures.states)
    (seen_stay c.args.self.now.states.items c.args.vertex Open Placed was (λ is. cc))

pub returns-in_default-clause-none : goal.returns-in_default-clause-none
returns-in_default-clause-none c =
    let path = c.args.self.now.path.items in
    let was = c.requires.search.on_path.have _ c.args.vertex c.requires.last in
    let within = slice_get_within path (length path - 1) c.args.vertex c.requires.last in
    let left = c.in_ok-leave.ensures in
    let before = c.next_source.ensures in
    rw (left.states, left.path, before.states, before.path)
    (less_left c.args.self.now.states.items path c.args.vertex was (omega arith))

pub returns-then-is_unseen-clause-search : goal.returns-then-is_unseen-clause-search
returns-then-is_unseen-clause-search c =
    let n = c.next_source.new.self in
    let some = c.in-Some.ensures.some in
    let fresh = rw c.as_slice.ensures.value at c.if-is_unseen.ensures.yes in
    let last : slice_get n.path.items (length n.path.items - 1) ≡ Some c.args.vertex =
    rw c.next_source.ensures.path c.requires.last in
    let leads = leads_last c.args.graph.now n.path.items c.args.vertex c.in-Some.source last some.0 in
    let now = c.in_ok-enter.ensures in
    rw (now.states, now.path, c.enter.ensures.order, c.enter.ensures.cursors)
    (entered c.args.graph.now n.states.items n.cursors.items n.path.items n.order.items c.in-Some.source
    c.next_source.ensures.search fresh leads)

pub returns-then-is_unseen-clause-seen : goal.returns-then-is_unseen-clause-seen
returns-then-is_unseen-clause-seen c =
    let fresh = rw (c.as_slice.ensures.value, c.next_source.ensures.states) at c.if-is_unseen.ensures.yes in
    rw (c.in_ok-enter.ensures.states, c.next_source.ensures.states)
    (seen_stay c.args.self.now.states.items c.in-Some.source Unseen Open fresh (λ is. cc))

pub returns-then-is_unseen-clause-none : goal.returns-then-is_unseen-clause-none
returns-then-is_unseen-clause-none c =
    let fresh = rw (c.as_slice.ensures.value, c.next_source.ensures.states) at c.if-is_unseen.ensures.yes in
    let now = c.in_ok-enter.ensures in
    let before = c.next_source.ensures in
    rw (now.states, now.path, before.states, before.path)
    (less_entered c.args.self.now.states.items c.args.self.now.path.items c.in-Some.source fresh)

pub returns-clause-some : goal.returns-clause-some
returns-clause-some c =
    let n = c.next_source.new.self in
    let some = c.in-Some.ensures.some in
    let last : slice_get n.path.items (length n.path.items - 1) ≡ Some c.args.vertex =
    rw c.next_source.ensures.path c.requires.last in (
      leads_last c.args.graph.now n.path.items c.args.vertex c.in-Some.source last some.0,
      elim (pending_is n.states.items c.in-Some.source (rw c.next_source.ensures.states some.1)) [
        | inl fresh ↦ absurd (c.if-is_unseen.ensures.no (rw c.as_slice.ensures.value fresh))
        | inr is ↦ is
      ],
    )
