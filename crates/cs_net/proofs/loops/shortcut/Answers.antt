use Rattle.std.proofs.Common.{rules, ◌≡◌, ◌<◌, ◌≤◌, ◌+◌, ℕ, List, subst, length, Some, None, sym, ap, ◌∙◌, arith}
use Rattle.std.specs.Prelude.{slice_get}
use Rattle.std.specs.Option.{option_copied}
use Rattle.std.proofs.lemmas.Option.{slice_get-get_or, slice_get_within}
use Rattle.cs_net.specs.Loops.{IsShortcutTo, last_place}
use Rattle.cs_net.proofs.ShortcutLemmas.{has_last, last_is_last, last_stands, shortcut_ends, shortcut_steps}
use Rattle.cs_net.proofs.loops.shortcut.Goals as goal

none_found : (x : ℕ) (walk : List ℕ) (k : ℕ) → slice_get walk k ≡ Some x → last_place x walk ≡ None → ⊥
none_found x walk k stands none =
    let found = has_last x walk k stands in let clash : Some found.0 ≡ None = sym found.1 ∙ none in cc

pub unreachable-requires : goal.unreachable-requires
unreachable-requires c =
    none_found _ c.args.walk.now c.loop-next.next
    (slice_get-get_or c.args.walk.now c.loop-next.next 0 c.loop-next-test.true)
    (sym (c.loop-next.invariant.lasts _) ∙ sym c.get.ensures.value ∙ ap option_copied c.in_default.is)

pub overflow_add-next : goal.overflow_add-next
overflow_add-next c =
    let is = sym (c.loop-next.invariant.lasts _) ∙ sym c.get.ensures.value ∙ ap option_copied c.in-Some.is in
    let below : c.in-Some.last.now < length c.args.walk.now =
    slice_get_within c.args.walk.now c.in-Some.last.now _
    (last_stands _ c.args.walk.now c.in-Some.last.now is) in
    search (rules, below)

pub loop-next-smaller : goal.loop-next-smaller
loop-next-smaller c =
    let is = sym (c.loop-next.invariant.lasts _) ∙ sym c.get.ensures.value ∙ ap option_copied c.in-Some.is in
    let below : c.in-Some.last.now < length c.args.walk.now =
    slice_get_within c.args.walk.now c.in-Some.last.now _
    (last_stands _ c.args.walk.now c.in-Some.last.now is) in
    let ahead : c.loop-next.next ≤ c.in-Some.last.now =
    last_is_last _ c.args.walk.now c.in-Some.last.now c.loop-next.next is
    (slice_get-get_or c.args.walk.now c.loop-next.next 0 c.loop-next-test.true) in
    omega (arith, below, ahead, c.loop-next-test.true)

pub loop-next-preserved : goal.loop-next-preserved
loop-next-preserved c =
    let is = sym (c.loop-next.invariant.lasts _) ∙ sym c.get.ensures.value ∙ ap option_copied c.in-Some.is in
    let below : c.in-Some.last.now < length c.args.walk.now =
    slice_get_within c.args.walk.now c.in-Some.last.now _
    (last_stands _ c.args.walk.now c.in-Some.last.now is) in
    let P : List ℕ → Type 0 = λ short. IsShortcutTo c.args.walk.now short (c.in-Some.last.now + 1) in
    record {
      lasts = c.loop-next.invariant.lasts;
      short = subst P (sym c.in_ok-push.ensures.items)
          (shortcut_steps c.args.walk.now c.loop-next.short.items c.loop-next.next _ c.in-Some.last.now
          c.loop-next.invariant.short
          (slice_get-get_or c.args.walk.now c.loop-next.next 0 c.loop-next-test.true) is);
      within = omega (arith, below);
    }

pub returns : goal.returns
returns c =
    shortcut_ends c.args.walk.now c.loop-next.short.items c.loop-next.next c.loop-next.invariant.short
    (search (rules, c.loop-next-test.false))
