use Rattle.std.proofs.Common.{◌∙◌, ap, sym}
use Rattle.cs_cert.specs.PaperShape.{paper_of}
use Rattle.cs_run.specs.Replies.{writing}
use Rattle.cs_run.specs.Upgrade.{MakesUpgrade, UpgradesAlike}
use Rattle.cs_run.proofs.StopLemmas.{if_reply}
use Rattle.cs_run.proofs.UpgradeLemmas.{one_text}
use Rattle.cs_run.proofs.upgrading.write_upgraded.Goals as goal

pub returns : goal.returns
returns c =
    let words = c.args.words.now in
    let bytes = c.args.bytes.now in
    let text = c.args.text.items in
    let is = c.requires.is in
    if_reply (λ r. MakesUpgrade words bytes r × UpgradesAlike bytes) c.writing.result (writing words.new text c.in_ok-line.line.items) (
      record { text = text; upgraded = is; is = ap (λ line. writing words.new text line) c.in_ok-line.ensures },
      λ other made. ap paper_of (one_text bytes other is.paper made is.says ∙ sym is.is) ∙ c.requires.alike,
    )
    c.writing.ensures
