-- The address, the context's pins, the word and the enable pins.
use Rattle.std.proofs.Common.{◌∙◌, ◌++◌, length, map, take, drop, sym, ap, ap₂}
use Rattle.std.proofs.lemmas.Result.{on_ok_weaker}
use Rattle.cs_bank.specs.ContextBits.{context_pins}
use Rattle.cs_bank.specs.Guards.{enable_pins}
use Rattle.cs_bank.specs.Wired.{feed_source}
use Rattle.cs_bank.proofs.PinParts.{address_part, enable_part, four_parts, word_part}
use Rattle.cs_bank.proofs.vertices.push_write_pins.Goals as goal

pub returns : goal.returns
returns c =
    let m = c.args.memory.now in
    let feeds = c.args.feeds.now in
    let fs = feed_source c.args.machine.now.edges in
    let pins = map fs feeds in
    let old = c.args.pins.now.items in
    let address = take m.abits pins in
    let context = context_pins c.args.contexts (length c.args.machine.now.vertices) in
    let word = take m.width (drop m.abits pins) in
    let enables = drop m.width (drop m.abits pins) in
    let first = c.in_ok-push_sources.ensures
    ∙ ap (λ ss. old ++ ss) (sym (address_part fs m.abits m.width feeds)) in
    let second = c.in_ok-push_context_pins.ensures ∙ ap (λ ss. ss ++ context) first in
    let third = c.in_ok-push_sources-2.ensures
    ∙ ap₂ (λ ss ts. ss ++ ts) second (sym (word_part fs m.abits m.width feeds)) in
    on_ok_weaker c.push_enable_pins.result (λ pushed. pushed
    ∙ ap₂ (λ ss ts. ss ++ enable_pins c.args.place m ts) third (sym (enable_part fs m.abits m.width feeds))
    ∙ four_parts old address context word (enable_pins c.args.place m enables))
    c.push_enable_pins.ensures
