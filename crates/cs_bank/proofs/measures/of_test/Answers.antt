-- A bit more.
use Rattle.std.proofs.Common.{◌≡◌, ◌+◌, ◌∙◌, ◌||◌, length, refl, sym, ap, subst}
use Rattle.std.specs.Prelude.{◌%◌, ◌/◌, ◌==◌}
use Rattle.std.proofs.lemmas.Option.{slice_get_read}
use Rattle.cs_bank.proofs.TestCounts.{TestCount, test_count_ends, test_count_more}
use Rattle.cs_bank.proofs.measures.of_test.Goals.{then-begun, else-begun}
use Rattle.cs_bank.proofs.measures.of_test.Goals as goal

pub loop-feed-preserved : goal.loop-feed-preserved
loop-feed-preserved c =
    let address = c.args.address.now in
    let rest = c.loop-feed.rest in
    let digit = rest % 2 == 1 in
    let found = slice_get_read address (length address) c.loop-feed.feed-index c.feed-item.result refl
    c.loop-feed-test.true c.feed-item.is in
    let begun : c.if-begun.begun ≡ (c.loop-feed.begun || digit) = elim c.if-begun.branch [
      | then-begun w ↦ w.begun-is ∙ w.if-begun.true ∙ sym (ap (λ b. b || digit) w.if-begun.true)
      | else-begun w ↦ w.begun-is ∙ sym (ap (λ b. b || digit) w.if-begun.false)
    ] in
    subst (λ b. TestCount c.args.measure c.args.machine.now.edges address c.args.size (c.loop-feed.feed-index + 1) b
    (rest / 2) c.saturating_add-total.result) (sym begun)
    (test_count_more c.args.measure c.args.machine.now.edges address c.args.size c.loop-feed.feed-index
    c.loop-feed.begun rest c.loop-feed.total c.feed-item.result c.of_test_gate.result c.saturating_add-total.result
    c.loop-feed.invariant found c.loop-feed-test.true (c.of_test_gate.ensures 0) c.saturating_add-total.ensures)

pub returns : goal.returns
returns c v =
    test_count_ends c.args.measure c.args.machine.now.edges c.args.address.now c.args.size c.loop-feed.feed-index
    c.loop-feed.begun c.loop-feed.rest c.loop-feed.total v c.loop-feed.invariant c.loop-feed-test.false
