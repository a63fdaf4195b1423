use Rattle.std.proofs.Common.{◌∙◌, ap, sym}
use Rattle.cs_stream.specs.Printing.{response_text}
use Rattle.cs_run.specs.Inputs.{all_bytes}
use Rattle.cs_run.specs.Mix.{MakesMix, MixesGiveBack}
use Rattle.cs_run.specs.Replies.{writing}
use Rattle.cs_run.proofs.StopLemmas.{if_reply}
use Rattle.cs_run.proofs.RowLemmas.{gives_back, own_faultless}
use Rattle.cs_run.proofs.mixing.write_mixed.Goals as goal

pub returns : goal.returns
returns c =
    let words = c.args.words.now in
    let streams = all_bytes c.args.streams.now in
    let rows = c.args.rows.now in
    let text = c.in_ok-text.text.items in
    let law = c.printed_reads_back.ensures in
    if_reply (λ r. MakesMix words streams r × MixesGiveBack streams) c.writing.result (writing words.output text c.in_ok-line.line.items) (
      record {
        text = text;
        mixed = record { faultless = c.requires.faultless; is = c.in_ok-text.ensures.text ∙ ap response_text c.requires.are };
        is = ap (λ line. writing words.output text line) c.in_ok-line.ensures;
      },
      λ other mixed. gives_back streams rows other c.requires (mixed.is ∙ sym (ap response_text c.requires.are))
          (own_faultless rows law.faultless law.width) law.rows,
    )
    c.writing.ensures
