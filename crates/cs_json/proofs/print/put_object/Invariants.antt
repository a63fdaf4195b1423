-- An object's text, member by member.
use Rattle.std.proofs.Common.{◌≡◌, ◌++◌, string_bytes}
use Rattle.serde_json.specs.Written.{compact_text}
use Rattle.cs_json.specs.Printed.{object_from}
use Rattle.cs_json.proofs.PartLemmas.{text_from}
use Rattle.cs_json.proofs.print.put_object.Given as goal

-- what is written and what is to come are the whole
abbrev pub invariant-loop-item : goal.invariant-loop-item
invariant-loop-item g l =
    string_bytes l.text ++ text_from g.T.Printing.member l.later l.items l.item-index
    ≡ string_bytes l.fn.text ++ compact_text (object_from g.T.Printing.member l.items)
