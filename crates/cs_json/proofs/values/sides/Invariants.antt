-- The directions of the pins of a cell.
use Rattle.std.proofs.Common.{◌≡◌, map, take}
use Rattle.serde_json.specs.View.{members_view}
use Rattle.cs_json.specs.Printed.{members_from, side_member}
use Rattle.cs_json.proofs.values.sides.Given as goal

-- the members of the pins so far
abbrev pub invariant-loop-pin : goal.invariant-loop-pin
invariant-loop-pin l =
    members_view l.map.entries ≡ members_from (map side_member (take l.pin-index l.pins))
