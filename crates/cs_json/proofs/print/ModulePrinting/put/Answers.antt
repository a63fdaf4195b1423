-- A module's text, list by list.
use Rattle.std.proofs.Common.{◌++◌, codes, false, string_bytes, true}
use Rattle.serde_json.specs.Data.{Data, Members, member, no_members}
use Rattle.serde_json.specs.Written.{compact_text}
use Rattle.cs_json.specs.Printed.{cell_member, entry_member, module_member, net_member, object_from, port_member}
use Rattle.cs_json.proofs.PartLemmas.{object_begun, member_written, object_ended, of_same_list}
use Rattle.cs_json.proofs.print.ModulePrinting.put.Goals as goal

pub returns : goal.returns
returns c =
    let m = c.args.self.now in
    let whole = string_bytes c.args.text.now ++ compact_text (module_member m).1 in
    let attributes : Data = object_from entry_member m.attributes in
    let cells : Data = object_from cell_member m.cells in
    let nets : Data = object_from net_member m.nets in
    let ports : Data = object_from port_member m.ports in
    let last : Members = member (codes "ports") ports no_members in
    let third : Members = member (codes "netnames") nets last in
    let second : Members = member (codes "cells") cells third in
    let begun =
    object_begun (member (codes "attributes") attributes second) (string_bytes c.args.text.now)
    (string_bytes c.push_str.new.self) c.in_ok-push_str.ensures.bytes in
    let first_written =
    member_written false (codes "attributes") attributes second (string_bytes c.push_str.new.self)
    (string_bytes c.put_key.new.text) (string_bytes c.put_entries.new.text) whole
    c.in_ok-put_key.ensures
    (of_same_list entry_member c.as_slice.result.now m.attributes (string_bytes c.put_key.new.text) (string_bytes c.put_entries.new.text)
    c.as_slice.ensures c.in_ok-put_entries.ensures)
    begun in
    let second_written =
    member_written true (codes "cells") cells third (string_bytes c.put_entries.new.text)
    (string_bytes c.put_key-2.new.text) (string_bytes c.put_object.new.text) whole
    c.in_ok-put_key-2.ensures
    (of_same_list cell_member c.as_slice-2.result.now m.cells (string_bytes c.put_key-2.new.text) (string_bytes c.put_object.new.text)
    c.as_slice-2.ensures c.in_ok-put_object.ensures)
    first_written in
    let third_written =
    member_written true (codes "netnames") nets last (string_bytes c.put_object.new.text)
    (string_bytes c.put_key-3.new.text) (string_bytes c.put_object-2.new.text) whole
    c.in_ok-put_key-3.ensures
    (of_same_list net_member c.as_slice-3.result.now m.nets (string_bytes c.put_key-3.new.text) (string_bytes c.put_object-2.new.text)
    c.as_slice-3.ensures c.in_ok-put_object-2.ensures)
    second_written in
    let all_written =
    member_written true (codes "ports") ports no_members (string_bytes c.put_object-2.new.text)
    (string_bytes c.put_key-4.new.text) (string_bytes c.put_object-3.new.text) whole
    c.in_ok-put_key-4.ensures
    (of_same_list port_member c.as_slice-4.result.now m.ports (string_bytes c.put_key-4.new.text) (string_bytes c.put_object-3.new.text)
    c.as_slice-4.ensures c.in_ok-put_object-3.ensures)
    third_written in
    object_ended true c.push_str-2.result (string_bytes c.put_object-3.new.text) (string_bytes c.push_str-2.new.self)
    whole c.push_str-2.ensures.bytes all_written
