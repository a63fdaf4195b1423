-- An object's text, member by member.
use Rattle.std.proofs.Common.{◌++◌, map, string_bytes}
use Rattle.serde_json.specs.Written.{compact_text}
use Rattle.cs_json.specs.Printed.{members_from, object_from}
use Rattle.cs_json.proofs.PartLemmas.{object_begun, one_more_member, object_ended, none_left}
use Rattle.cs_json.proofs.print.put_object.Goals as goal

pub loop-item-init : goal.loop-item-init
loop-item-init g c =
    object_begun (members_from (map g.T.Printing.member c.args.items.now)) (string_bytes c.args.text.now) (string_bytes c.push_str.new.self)
    c.in_ok-push_str.ensures.bytes

pub loop-item-preserved : goal.loop-item-preserved
loop-item-preserved g c =
    one_more_member g.T.Printing.member c.loop-item.later c.args.items.now c.loop-item.item-index c.item-item.result
    (string_bytes c.loop-item.text) (string_bytes c.put_key.new.text) (string_bytes c.put.new.text)
    c.name.result.now (string_bytes c.args.text.now ++ compact_text (object_from g.T.Printing.member c.args.items.now))
    c.loop-item-test.true c.item-item.is c.name.ensures c.in_ok-put_key.ensures c.in_ok-put.ensures
    c.loop-item.invariant

pub returns : goal.returns
returns g c =
    let whole = string_bytes c.args.text.now ++ compact_text (object_from g.T.Printing.member c.args.items.now) in
    let text = string_bytes c.loop-item.text in
    object_ended c.loop-item.later c.push_str-2.result text (string_bytes c.push_str-2.new.self) whole
    c.push_str-2.ensures.bytes
    (none_left g.T.Printing.member c.loop-item.later c.args.items.now c.loop-item.item-index text whole
    c.loop-item-test.false c.loop-item.invariant)
