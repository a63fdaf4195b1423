-- An object of attributes or parameters.
use Rattle.std.proofs.Common.{◌≡◌, map, take}
use Rattle.serde_json.specs.View.{members_view}
use Rattle.cs_json.specs.Printed.{members_from, entry_member}
use Rattle.cs_json.proofs.values.entries_value.Given as goal

-- the members of the entries so far
abbrev pub invariant-loop-entry : goal.invariant-loop-entry
invariant-loop-entry l =
    members_view l.map.entries ≡ members_from (map entry_member (take l.entry-index l.entries))
