use Rattle.std.proofs.Common.{◌∙◌, ap, length}
use Rattle.std.specs.Prelude.{unwrap_or}
use Rattle.cs_stream.proofs.LineLemmas.{unwrap_or-position}
use Rattle.cs_stream.proofs.reading.width_of.Goals as goal

pub returns : goal.returns
returns c =
    let bytes = c.args.bytes.now in
    c.unwrap_or.ensures ∙ ap (λ place. unwrap_or place (length bytes)) c.newline.ensures
    ∙ unwrap_or-position bytes
