-- The digits one after the other.
use Rattle.std.proofs.Common.{◌≡◌, ◌∙◌, ◌*◌, ap, map, rules}
use Rattle.cs_modules.specs.Digits.{is_one}
use Rattle.cs_modules.specs.Pins.{count_from}
use Rattle.cs_modules.specs.Words.{words_in}
use Rattle.cs_modules.proofs.Pushed.{one_more_counted}
use Rattle.cs_modules.proofs.WordLists.{all_counted, counted_long, counted_words}
use Rattle.cs_modules.proofs.memories.words_of.Goals as goal

pub loop-i-preserved : goal.loop-i-preserved
loop-i-preserved c =
    one_more_counted (is_one c.args.digits.now) c.loop-i.i c.is_one.result c.loop-i.bits.items c.push.new.self.items
    c.is_one.ensures c.loop-i.invariant (search rules)

pub new-requires : goal.new-requires
new-requires c =
    let digit = is_one c.args.digits.now in
    counted_long digit c.loop-i.bits.items (c.args.count * c.args.width)
    (all_counted digit c.loop-i.bits.items c.loop-i.i c.from.result c.from-2.result c.args.count c.args.width
    c.loop-i.invariant c.loop-i.auto.i-end c.loop-i-test.false (search rules) (search rules))

pub returns : goal.returns
returns c =
    let digit = is_one c.args.digits.now in
    c.new.ensures
    ∙ ap (words_in c.args.count c.args.width)
    (all_counted digit c.loop-i.bits.items c.loop-i.i c.from.result c.from-2.result c.args.count c.args.width
    c.loop-i.invariant c.loop-i.auto.i-end c.loop-i-test.false (search rules) (search rules))
    ∙ counted_words digit c.args.count c.args.width
