-- Reading the delays of all types.
use Rattle.std.proofs.Common.{◌≡◌}
use Rattle.serde_json.specs.View.{members_view}
use Rattle.cs_json.specs.Walk.{each_member, entries}
use Rattle.cs_json.proofs.Loops.{with_front}
use Rattle.cs_delay.specs.Shape.{entry}
use Rattle.cs_delay.proofs.shape.listed.Given as goal

-- what was read so far, and then the members that are left
abbrev pub invariant-loop-kind : goal.invariant-loop-kind
invariant-loop-kind l =
    with_front l.found (each_member (entry l.is_second) (entries (members_view l.kind-iterator)))
    ≡ each_member (entry l.is_second) (entries (members_view l.map.entries))
