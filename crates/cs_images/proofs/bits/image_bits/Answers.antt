-- The bits of an image, one after the other.
use Rattle.std.proofs.Common.{◌≡◌, ◌∙◌, Bool, List, ap, arith, length, map, rules}
use Rattle.cs_modules.specs.Digits.{is_one}
use Rattle.cs_modules.specs.Pins.{count_from}
use Rattle.cs_modules.proofs.Pushed.{one_more_counted}
use Rattle.cs_images.specs.Images.{bit_count}
use Rattle.cs_images.proofs.ImageLemmas.{as_many_bits}
use Rattle.cs_images.proofs.bits.image_bits.Goals as goal

pub loop-digit-preserved : goal.loop-digit-preserved
loop-digit-preserved c =
    one_more_counted (is_one c.in_ok-digits.digits.items) c.loop-digit.digit c.is_one.result c.loop-digit.bits.items
    c.push.new.self.items (search rules) c.loop-digit.invariant (search rules)

pub returns : goal.returns
returns c =
    let digit = is_one c.in_ok-digits.digits.items in
    let all : c.loop-digit.digit ≡ length c.bits-count.result.now =
    omega (arith, c.loop-digit-test.false, c.loop-digit.auto.digit-end) in
    c.from_vec.ensures
    ∙ c.loop-digit.invariant
    ∙ ap (λ n. map digit (count_from 0 n))
    (all ∙ ap (λ (bits : List Bool). length bits) c.bits-count.ensures ∙ as_many_bits c.args.words.now)
    ∙ ap (λ digits. map (is_one digits) (count_from 0 (bit_count c.args.words.now))) c.in_ok-digits.ensures
