-- The multiplexers in their order; the enable's reads what the register holds.
use Rattle.std.proofs.Common.{◌∙◌, ap}
use Rattle.cs_lower.specs.Registers.{element_of, held_tap}
use Rattle.cs_lower.proofs.PushedChains.{enable_then_reset, reset_then_enable}
use Rattle.cs_lower.proofs.PushedParts.{if_ok}
use Rattle.cs_lower.proofs.registers.push_chain.Goals as goal

pub returns-in_ok-last : goal.returns-in_ok-last
returns-in_ok-last c =
    if_ok (λ end pushed source. reset_then_enable c.args.net.now source c.args.pins.now c.args.parts.now
    c.push_reset.new.parts c.push_enable.new.parts c.args.d c.in_ok-last.last end c.held_tap-held.result
    (c.held_tap-held.ensures source
    ∙ ap (λ n. held_tap c.args.net.now n (c.args.pins.now.q, c.args.pins.now.start) (element_of source c.args.pins.now)) c.len.ensures)
    c.if-pins.true c.in_ok-last.ensures pushed)
    c.push_enable.result c.push_enable.ensures

pub returns-in_ok-last-2 : goal.returns-in_ok-last-2
returns-in_ok-last-2 c =
    if_ok (λ end pushed source. enable_then_reset c.args.net.now source c.args.pins.now c.args.parts.now
    c.push_enable-else-pins.new.parts c.push_reset-else-pins.new.parts c.args.d c.in_ok-last-2.last end
    c.held_tap-held.result
    (c.held_tap-held.ensures source
    ∙ ap (λ n. held_tap c.args.net.now n (c.args.pins.now.q, c.args.pins.now.start) (element_of source c.args.pins.now)) c.len.ensures)
    c.if-pins.false c.in_ok-last-2.ensures pushed)
    c.push_reset-else-pins.result c.push_reset-else-pins.ensures
