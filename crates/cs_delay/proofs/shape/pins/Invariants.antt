-- Reading the delays of all pins of a type.
use Rattle.std.proofs.Common.{◌≡◌}
use Rattle.serde_json.specs.View.{members_view}
use Rattle.cs_json.specs.Walk.{each_member, entries}
use Rattle.cs_json.proofs.Loops.{with_front}
use Rattle.cs_delay.specs.Shape.{pin}
use Rattle.cs_delay.proofs.shape.pins.Given as goal

-- what was read so far, and then the members that are left
abbrev pub invariant-loop-name : goal.invariant-loop-name
invariant-loop-name l =
    with_front l.found (each_member pin (entries (members_view l.name-iterator)))
    ≡ each_member pin (entries (members_view l.map.entries))
