use Rattle.std.proofs.Common.{◌++◌, ◌-◌, ap, ◌∙◌}
use Rattle.cs_modules.specs.PinBits.{widths_in}
use Rattle.cs_modules.proofs.WidthLemmas.{from_first, gate_pins, pin_pushed, all_pins}
use Rattle.cs_modules.proofs.pins.gate_widths.Goals as goal

pub loop-i-init : goal.loop-i-init
loop-i-init c =
    ap (λ v. widths_in v ++ gate_pins c.args.kind 0 (c.pin_count-i-end.result - 0)) c.new-widths.ensures.items
    ∙ from_first c.args.kind c.pin_count-i-end.result

pub loop-i-preserved : goal.loop-i-preserved
loop-i-preserved c =
    pin_pushed c.args.kind c.loop-i.i c.pin_count-i-end.result c.loop-i.widths.items c.push.new.self.items c.pin_name.result
    c.loop-i-test.true c.pin_name.ensures c.in_ok-push.ensures.items c.loop-i.invariant

pub returns : goal.returns
returns c =
    all_pins c.args.kind c.loop-i.i c.pin_count-i-end.result c.loop-i.widths.items c.push-2.new.self.items _
    c.loop-i-test.false c.pin_count-i-end.ensures c.in_ok-push-2.ensures.items c.loop-i.invariant
