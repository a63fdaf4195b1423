-- The printed bytes, and that they are read again.
use Rattle.std.proofs.Common.{◌≡◌, ◌∷◌, ◌++◌, [], ap, codes, false, refl, string_bytes, subst, sym, true, ◌∙◌}
use Rattle.std.specs.Prelude.{IsUtf8}
use Rattle.std.proofs.lemmas.List.{append_assoc}
use Rattle.std.proofs.lemmas.Str.{IsUtf8-string_bytes}
use Rattle.serde_json.specs.Data.{Data, Members, member, no_members, string}
use Rattle.serde_json.specs.Written.{compact_text, members_text}
use Rattle.cs_json.specs.Printed.{data_of, module_member, object_from, printed}
use Rattle.cs_json.specs.Shape.{document}
use Rattle.cs_json.proofs.PartLemmas.{member_written, of_same_list}
use Rattle.cs_json.proofs.PlainDocument.{document-printed}
use Rattle.cs_json.proofs.print.print_document.Goals as goal

printed_of : (c : goal.After-into_bytes) → string_bytes c.push_str.new.self ≡ printed c.args.doc.now
unfolding data_of
printed_of c =
    let whole = compact_text (data_of c.args.doc.now) in
    let modules : Data = object_from module_member c.args.doc.now.modules in
    let last : Members = member (codes "modules") modules no_members in
    let begun : string_bytes c.in_ok-text.text ++ members_text false (member (codes "creator") (string (codes "cslow")) last) ≡ whole =
    ap (λ t. t ++ members_text false (member (codes "creator") (string (codes "cslow")) last)) c.in_ok-text.ensures.ok in
    let first_written =
    member_written false (codes "creator") (string (codes "cslow")) last (string_bytes c.in_ok-text.text)
    (string_bytes c.put_key.new.text) (string_bytes c.put_string.new.text) whole
    c.in_ok-put_key.ensures c.in_ok-put_string.ensures begun in
    let all_written =
    member_written true (codes "modules") modules no_members (string_bytes c.put_string.new.text)
    (string_bytes c.put_key-2.new.text) (string_bytes c.put_object.new.text) whole
    c.in_ok-put_key-2.ensures
    (of_same_list module_member c.as_slice.result.now c.args.doc.now.modules (string_bytes c.put_key-2.new.text)
    (string_bytes c.put_object.new.text) c.as_slice.ensures c.in_ok-put_object.ensures)
    first_written in
    c.in_ok-push_str.ensures.bytes
    ∙ sym (append_assoc (string_bytes c.put_object.new.text) (125 ∷ []) (10 ∷ []))
    ∙ ap (λ t. t ++ 10 ∷ []) all_written

pub returns-clause-text : goal.returns-clause-text
returns-clause-text c = ap (λ v. v.items) c.into_bytes.ensures.value ∙ printed_of c

pub returns-clause-reads_back : goal.returns-clause-reads_back
returns-clause-reads_back c =
    ap (λ v. document v.items) c.into_bytes.ensures.value
    ∙ ap document (printed_of c)
    ∙ document-printed c.args.doc.now c.requires
    (subst IsUtf8 (printed_of c) (IsUtf8-string_bytes c.push_str.new.self))
