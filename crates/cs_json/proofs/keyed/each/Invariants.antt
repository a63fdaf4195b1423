-- Reading all members of an object.
use Rattle.std.proofs.Common.{◌≡◌}
use Rattle.serde_json.specs.View.{members_view}
use Rattle.cs_json.specs.Walk.{each_member, entries}
use Rattle.cs_json.proofs.Loops.{with_front}
use Rattle.cs_json.proofs.keyed.each.Given as goal

-- what was read so far, and then the members that are left
abbrev pub invariant-loop-name : goal.invariant-loop-name
invariant-loop-name g l =
    with_front l.found (each_member g.T.Keyed.read_from (entries (members_view l.name-iterator)))
    ≡ each_member g.T.Keyed.read_from (entries (members_view l.map.entries))
