use Rattle.std.proofs.Common.{◌∙◌}
use Rattle.cs_lower.proofs.RingChoices.{none_chosen}
use Rattle.cs_lower.proofs.rings.chosen.Goals as goal

pub returns-then-is_empty : goal.returns-then-is_empty
returns-then-is_empty c =
    c.new-chosen.ensures.items ∙ none_chosen c.args.set.now.keys c.args.numbers.now (c.is_empty.ensures.0 c.if-is_empty.true)
