use Rattle.std.proofs.Common.{◌∙◌}
use Rattle.cs_words.proofs.VerbLemmas.{labelled}
use Rattle.cs_words.proofs.verb.verb_among.Goals as goal

pub returns : goal.returns
returns c = c.row_verb.ensures ∙ labelled c.args.rows.now c.args.word.now
