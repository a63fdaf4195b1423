-- The test and the gates of the enable bits.
use Rattle.std.proofs.Common.{◌≡◌, ◌+◌, ◌-◌, ◌∙◌, ℕ, [], map, take, drop, sym, ap, ap₂, arith}
use Rattle.std.specs.Prelude.{min, if◌then◌else◌}
use Rattle.cs_bank.specs.ContextBits.{digits}
use Rattle.cs_bank.specs.Guards.{below_size, guard_gates, guarded_enables, memory_tests}
use Rattle.cs_bank.specs.Measures.{extent}
use Rattle.cs_bank.specs.Wired.{feed_source}
use Rattle.cs_bank.proofs.Counted.{most}
use Rattle.cs_bank.proofs.MeasureLemmas.{extent_append}
use Rattle.cs_bank.proofs.PinParts.{address_long, address_part, enable_part}
use Rattle.cs_bank.proofs.measures.of_guard.Goals as goal

both : (a b whole x y sum : ℕ) → x ≡ min a most → y ≡ min b most → sum ≡ min (x + y) most → whole ≡ a + b
    → sum ≡ min whole most
both a b whole x y sum left right is all = omega (arith, left, right, is, all)

pub returns-then-is_guarded : goal.returns-then-is_guarded
returns-then-is_guarded c v =
    let m = c.args.memory.now in
    let feeds = c.args.feeds.now in
    let fs = feed_source c.args.machine.now.edges in
    let pins = map fs feeds in
    let last = v + memory_tests m - 1 in
    let enables = drop m.width (drop m.abits pins) in
    let test = c.of_test-test.ensures v
    ∙ ap₂ (λ ss n. min (extent c.args.measure (below_size v ss (digits n m.size))) most)
    (sym (address_part fs m.abits m.width feeds)) (address_long m.abits m.width feeds c.requires.pins) in
    let gates = c.of_enables-enables.ensures last
    ∙ ap (λ ss. min (extent c.args.measure (guarded_enables last ss)) most)
    (sym (enable_part fs m.abits m.width feeds)) in
    both _ _ (extent c.args.measure (guard_gates v m pins)) _ _ _ test gates c.saturating_add.ensures
    (extent_append c.args.measure (below_size v (take m.abits pins) (digits m.abits m.size)) (guarded_enables last enables))
    ∙ ap (λ b. min (extent c.args.measure (if b then guard_gates v m pins else [])) most) c.if-is_guarded.ensures
