-- The test, then the gates of the enable bits.
use Rattle.std.proofs.Common.{◌≡◌, ◌+◌, ◌-◌, ◌∙◌, ◌++◌, length, map, take, drop, sym, ap, ap₂, arith, rules, length-append, append_assoc}
use Rattle.std.proofs.lemmas.List.{length-map}
use Rattle.std.proofs.lemmas.Result.{on_ok_weaker}
use Rattle.cs_bank.specs.ContextBits.{digits}
use Rattle.cs_bank.specs.Guards.{below_size, guarded_enables, memory_tests}
use Rattle.cs_bank.specs.Wired.{feed_source}
use Rattle.cs_bank.proofs.PinParts.{address_long, address_part, enable_part}
use Rattle.cs_bank.proofs.SizeTests.{length-below_size, length-digits}
use Rattle.cs_bank.proofs.TestLemmas.{test_within}
use Rattle.cs_bank.proofs.guards.push_guard_gates.Goals as goal

pub overflow_cast-len : goal.overflow_cast-len
overflow_cast-len c =
    let m = c.args.memory.now in
    let address = take m.abits c.args.feeds.now in
    let fs = feed_source c.args.machine.now.edges in
    let ds = digits (length address) m.size in
    let long = address_long m.abits m.width c.args.feeds.now c.requires.pins in
    let tests = below_size (length c.args.vertices.now.items) (map fs address) ds in
    let all = ap length c.in_ok-push_test.ensures ∙ length-append c.args.vertices.now.items tests in
    let few = test_within (length address) (map fs address) (length c.args.vertices.now.items) m.size
    (length-map address fs) in
    let count = c.len.ensures in
    let room = c.requires.few in
    omega (arith, all, few, count, room, long)

pub returns : goal.returns
returns c =
    let m = c.args.memory.now in
    let feeds = c.args.feeds.now in
    let fs = feed_source c.args.machine.now.edges in
    let pins = map fs feeds in
    let old = c.args.vertices.now.items in
    let v = length old in
    let address = take m.abits feeds in
    let test = c.in_ok-push_test.ensures
    ∙ ap₂ (λ ss n. old ++ below_size v ss (digits n m.size)) (sym (address_part fs m.abits m.width feeds))
    (address_long m.abits m.width feeds c.requires.pins) in
    let tests = below_size v (take m.abits pins) (digits m.abits m.size) in
    let same = ap length (address_part fs m.abits m.width feeds) ∙ length-map address fs
    ∙ address_long m.abits m.width feeds c.requires.pins ∙ sym (length-digits m.abits m.size) in
    let count : length c.push_test.new.vertices.items ≡ v + memory_tests m =
    ap length test ∙ length-append old tests ∙ ap (λ n. v + n) (length-below_size v (take m.abits pins) (digits m.abits m.size) same) in
    let many : c.len.result ≡ length c.push_test.new.vertices.items = search rules in
    let last : c.new-last.result ≡ v + memory_tests m - 1 =
    c.new-last.ensures ∙ ap (λ n. n - 1) (many ∙ count) in
    on_ok_weaker c.push_enables.result (λ pushed. pushed
    ∙ ap₂ (λ xs u. xs ++ guarded_enables u (map fs (take (length feeds - (m.abits + m.width)) (drop (m.abits + m.width) feeds)))) test last
    ∙ ap (λ ss. (old ++ tests) ++ guarded_enables (v + memory_tests m - 1) ss) (sym (enable_part fs m.abits m.width feeds))
    ∙ append_assoc old tests (guarded_enables (v + memory_tests m - 1) (drop m.width (drop m.abits pins))))
    c.push_enables.ensures
