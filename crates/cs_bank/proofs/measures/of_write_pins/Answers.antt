-- The address, the context's pins, the word and the enable pins.
use Rattle.std.proofs.Common.{◌≡◌, ◌+◌, ◌∙◌, ◌++◌, ℕ, map, take, drop, sym, ap, arith}
use Rattle.std.specs.Prelude.{min}
use Rattle.cs_bank.specs.ContextBits.{context_pins}
use Rattle.cs_bank.specs.Guards.{enable_pins}
use Rattle.cs_bank.specs.Measures.{of_pins}
use Rattle.cs_bank.specs.Wired.{feed_source}
use Rattle.cs_bank.proofs.Counted.{most}
use Rattle.cs_bank.proofs.MeasureLemmas.{pins_append}
use Rattle.cs_bank.proofs.PinParts.{address_part, enable_part, word_part}
use Rattle.cs_bank.proofs.measures.of_write_pins.Goals as goal

all : (a b d e whole x y z w one two three : ℕ) → x ≡ min a most → y ≡ b → z ≡ min d most → w ≡ min e most
    → one ≡ min (x + y) most → two ≡ min (one + z) most → three ≡ min (two + w) most → whole ≡ a + (b + (d + e))
    → three ≡ min whole most
all a b d e whole x y z w one two three xa yb zd we o tw th is =
    let first : one ≡ min (a + b) most = omega (arith, xa, yb, o) in
    let second : two ≡ min ((a + b) + d) most = omega (arith, first, zd, tw) in
    omega (arith, second, we, th, is)

pub returns : goal.returns
returns c first v =
    let m = c.args.memory.now in
    let feeds = c.args.feeds.now in
    let fs = feed_source c.args.machine.now.edges in
    let pins = map fs feeds in
    let measure = c.args.measure in
    let address = take m.abits pins in
    let context = context_pins c.args.contexts first in
    let word = take m.width (drop m.abits pins) in
    let enables = enable_pins v m (drop m.width (drop m.abits pins)) in
    let outer = pins_append measure (address ++ context ++ word) enables in
    let middle = pins_append measure (address ++ context) word in
    let inner = pins_append measure address context in
    all (of_pins measure address) (of_pins measure context) (of_pins measure word) (of_pins measure enables) _ _ _ _ _
    _ _ _
    (c.of_feeds-address.ensures
    ∙ ap (λ ss. min (of_pins measure ss) most) (sym (address_part fs m.abits m.width feeds)))
    (c.of_context_pins.ensures.is first)
    (c.of_feeds-word.ensures ∙ ap (λ ss. min (of_pins measure ss) most) (sym (word_part fs m.abits m.width feeds)))
    (c.of_enable_pins-enables.ensures v
    ∙ ap (λ ss. min (of_pins measure (enable_pins v m ss)) most) (sym (enable_part fs m.abits m.width feeds)))
    c.saturating_add.ensures c.saturating_add-2.ensures c.saturating_add-3.ensures (omega (arith, outer, middle, inner))
