use Rattle.std.proofs.Common.{◌∙◌, ◌++◌, ◌+◌, ◌-◌, ◌/◌, ap}
use Rattle.cs_modules.specs.Digits.{binary_digits_within}
use Rattle.cs_modules.proofs.BinaryDigits.{none_made, last_made, one_more_made, all_made}
use Rattle.cs_modules.proofs.digits.binary_digits.Goals as goal

pub loop-place-init : goal.loop-place-init
loop-place-init c =
    ap (λ items. items ++ binary_digits_within 128 c.args.number) c.new-digits.ensures.items ∙ none_made c.args.number

pub returns-then-rest-eq0 : goal.returns-then-rest-eq0
returns-then-rest-eq0 c =
    let now = c.loop-place in
    c.in_ok-push.ensures.items
    ∙ last_made now.digits.items _ now._place now.rest c.loop-place-test.true now.invariant c.if-rest-eq0.true

pub loop-place-preserved : goal.loop-place-preserved
loop-place-preserved c =
    let now = c.loop-place in
    ap (λ items. items ++ binary_digits_within (128 - (now._place + 1)) (now.rest / 2)) c.in_ok-push.ensures.items
    ∙ one_more_made now.digits.items _ now._place now.rest c.loop-place-test.true now.invariant c.if-rest-eq0.false

pub returns : goal.returns
returns c =
    let now = c.loop-place in
    all_made now.digits.items _ now._place now.rest c.loop-place-test.false now.invariant
