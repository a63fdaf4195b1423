-- An object of attributes or parameters.
use Rattle.serde_json.specs.View.{view, members_view}
use Rattle.cs_json.specs.Printed.{entry_member}
use Rattle.cs_json.proofs.PrintingLemmas.{one_more_put, all_put}
use Rattle.cs_json.proofs.values.entries_value.Goals as goal

pub loop-entry-preserved : goal.loop-entry-preserved
loop-entry-preserved c =
    one_more_put entry_member c.args.entries.now c.loop-entry.entry-index c.entry-item.result
    (members_view c.loop-entry.map.entries) (members_view c.put.new.map.entries) c.as_str.result.now
    (view c.in_ok-value.value)
    c.requires.order c.loop-entry-test.true c.entry-item.is c.as_str.ensures
    c.in_ok-value.ensures c.loop-entry.invariant c.in_ok-put.ensures.ok

pub returns : goal.returns
returns c =
    all_put entry_member c.args.entries.now c.loop-entry.entry-index
    c.loop-entry.map c.loop-entry-test.false c.loop-entry.invariant
