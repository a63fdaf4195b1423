use Rattle.std.proofs.Common.{◌∙◌, ap}
use Rattle.serde_json.specs.Written.{compact_text, has_float}
use Rattle.cs_report.specs.Words.{quoted}
use Rattle.cs_report.proofs.words.quoted.Goals as goal

pub returns : goal.returns
unfolding quoted
returns c =
    c.from_string.ensures ∙ c.in_ok-to_string.ensures.text (ap has_float c.in_ok-value.ensures)
    ∙ ap compact_text c.in_ok-value.ensures
