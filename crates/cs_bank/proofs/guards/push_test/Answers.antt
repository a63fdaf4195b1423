-- A bit more.
use Rattle.std.proofs.Common.{◌≡◌, ◌+◌, ◌++◌, ◌∙◌, ◌||◌, length, refl, sym, ap, subst}
use Rattle.std.specs.Prelude.{◌%◌, ◌/◌, ◌==◌}
use Rattle.std.proofs.lemmas.Option.{slice_get_read}
use Rattle.cs_bank.specs.TestSteps.{test_gates}
use Rattle.cs_bank.proofs.TestLemmas.{TestSoFar, test_more}
use Rattle.cs_bank.proofs.guards.push_test.Goals.{then-begun, else-begun}
use Rattle.cs_bank.proofs.guards.push_test.Goals as goal

pub loop-feed-preserved : goal.loop-feed-preserved
loop-feed-preserved c =
    let address = c.args.address.now in
    let rest = c.loop-feed.rest in
    let digit = rest % 2 == 1 in
    let items = c.loop-feed.vertices.items in
    let found = slice_get_read address (length address) c.loop-feed.feed-index c.feed-item.result refl
    c.loop-feed-test.true c.feed-item.is in
    let begun : c.if-begun.begun ≡ (c.loop-feed.begun || digit) = elim c.if-begun.branch [
      | then-begun w ↦ w.begun-is ∙ w.if-begun.true ∙ sym (ap (λ b. b || digit) w.if-begun.true)
      | else-begun w ↦ w.begun-is ∙ sym (ap (λ b. b || digit) w.if-begun.false)
    ] in
    subst (λ b. TestSoFar c.args.machine.now.edges address c.args.size c.args.vertices.now.items
    (c.loop-feed.feed-index + 1) b (rest / 2) c.push_test_gate.new.vertices.items) (sym begun)
    (test_more c.args.machine.now.edges address c.args.size c.args.vertices.now.items c.loop-feed.feed-index
    c.feed-item.result c.loop-feed.begun rest items c.push_test_gate.new.vertices.items c.loop-feed.invariant found
    c.loop-feed-test.true
    (c.in_ok-push_test_gate.ensures
    ∙ ap (λ s. items ++ test_gates c.loop-feed.begun (length items) s digit) c.in_ok-bit.ensures))
